-- Demands 2 and 3 as statements about a chart and a program. proofs/Laws/Demands.antt proves them of an accepted
-- chart's own program.
use Rattle.std.specs.Prelude.{◌≡◌, ℕ, ◌*◌, List, [], ◌∷◌, length}
use Rattle.meaning.specs.Tables.{Tables, timer_count}
use Rattle.meaning.specs.Layout.{flip_flop_count}
use Rattle.meaning.specs.Machine.{State, active_leaf, start_state, state_after_step, Seen, seen_in, Valid}
use Rattle.meaning.specs.History.{history_reading}
use Rattle.meaning.specs.Programs.{Program, instructions, flip_flop_bytes}
use Rattle.meaning.specs.Scan.{Controller, scanned, output_word, cleared, ValidController}
use Rattle.meaning.specs.Stands.{StandsFor, coded_leaf}

-- what a controller shows after a scan of the program p: the leaf that its flip-flops lead to, and the output word
unfoldable pub seen_after_scan : Tables → Program → ℕ → Controller → Seen
seen_after_scan c p x k = record {
  leaf = coded_leaf c (scanned c.scan_step x (instructions p) k).flip_flops;
  outputs = output_word c.scan_step x (instructions p) k;
}

-- what it shows after each scan
unfoldable pub program_trace : Tables → Program → Controller → List ℕ → List Seen
program_trace c p k [] = []
program_trace c p k (x ∷ xs) = seen_after_scan c p x k ∷ program_trace c p (scanned c.scan_step x (instructions p) k) xs

-- the last leaf of what is seen, or l
unfoldable pub last_leaf : ℕ → List Seen → ℕ
last_leaf l [] = l
last_leaf l (e ∷ es) = last_leaf e.leaf es

-- one scan of p with the input word x is one step of the machine: what it leaves is a controller that the run accepts
-- and that stands for the machine's next state, and leaf and outputs are the machine's
pub record OneStep (c : Tables) (p : Program) (k : Controller) (s : State) (x : ℕ) : Type 0 where
  pub valid : ValidController p (scanned c.scan_step x (instructions p) k)
  pub stands : StandsFor c (scanned c.scan_step x (instructions p) k) (state_after_step c x s)
  pub same : seen_after_scan c p x k ≡ seen_in c (state_after_step c x s)
  -- and the machine's next state is valid, so that the next scan starts from such a pair again
  pub next : Valid c (state_after_step c x s)

-- Demand 2: from each valid state one scan of the program p is one step of the machine
pub record DoesTheChart (c : Tables) (p : Program) : Type 0 where
  -- the program names the chart's flip-flops and their working copies and no more, and declares the chart's timers
  pub bytes : flip_flop_bytes (instructions p) ≡ 2 * flip_flop_count c
  pub timers : length p.timers ≡ timer_count c
  -- every valid state has a controller that the run accepts and that stands for it; all zero is one for the start
  pub held : (s : State) → Valid c s → (k : Controller) × ValidController p k × StandsFor c k s
  pub begins : ValidController p (cleared p) × StandsFor c (cleared p) (start_state c)
  -- from every such controller, not from one made for the state
  pub scans : (k : Controller) (s : State) (x : ℕ)
      → Valid c s → ValidController p k → StandsFor c k s → OneStep c p k s x

-- Demand 3: from cleared memory, leaf and outputs after every scan are what the inputs and the list of earlier leaves
-- call for
pub record RunsAsRead (c : Tables) (p : Program) : Type 0 where
  pub runs : (xs : List ℕ) → program_trace c p (cleared p) xs ≡ history_reading c xs
  -- the leaf is decoded rightly: of any controller that stands for a state it is the state's leaf
  pub decodes : (k : Controller) (s : State)
      → Valid c s → StandsFor c k s → coded_leaf c k.flip_flops ≡ active_leaf c s.memory
