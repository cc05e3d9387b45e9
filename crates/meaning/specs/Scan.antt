-- What instructions do to a controller: IEC 61131-3 as document 01 fixes it.
use Rattle.std.specs.Prelude.{◌≡◌, ℕ, ◌+◌, ◌-◌, ◌≤◌, ◌<◌, min, Bool, true, false, ◌&&◌, ◌||◌, not, cond, length, get_or}
use Rattle.std.specs.Prelude.{set, drop, replicate, leb, eqb}
use mathlib.Core.List.{List, [], ◌∷◌, head_d}
use Rattle.meaning.specs.Tables.{most_outputs}
use Rattle.meaning.specs.Literals.{input_on}
use Rattle.meaning.specs.Machine.{word_of}
use Rattle.meaning.specs.Programs.{TimerRung, Program, instructions, flip_flop_bytes}
use Rattle.meaning.specs.declared.Block.{Block}
use Rattle.meaning.specs.declared.Operand.{Operand}
use Rattle.meaning.specs.declared.Operand.TheVariants.{Mx, Ix, Qx, TimerQ, TimerIn, TimerPt, Timer, False, True}
use Rattle.meaning.specs.declared.Operator.{Operator}
use Rattle.meaning.specs.declared.Operator.TheVariants.{Ld, Ldn, And, Andn, Or, Close, St, S, R, Cal, LdTime}

-- what is lent: the flip-flop bytes and the timer blocks
pub record Controller : Type 0 where
  pub flip_flops : List ℕ
  pub blocks : List Block

-- a controller in the middle of a scan: the result, what brackets have deferred, the time loaded last, and the outputs
-- from %QX1 on
pub record MidScan : Type 0 where
  pub result : Bool
  pub deferred : List Bool
  pub time : ℕ
  pub controller : Controller
  pub outputs : List Bool

-- a block that was never called: `input` is IN, `last` the IN of its last call
abbrev pub blank : Block
blank = record { input = false; pt = 0; et = 0; q = false; last = false }

-- blocks count from 1, and block 0 is never asked
unfoldable pub block_at : List Block → ℕ → Block
block_at bs n = get_or bs (n - 1) blank

unfoldable pub block_changed : List Block → ℕ → (Block → Block) → List Block
block_changed bs n f = set bs (n - 1) (f (block_at bs n))

-- "IN off gives ET 0, Q off; IN on after off gives ET 0; IN on after on adds one scan step, up to PT; Q when ET
-- reaches PT"
unfoldable pub elapsed : ℕ → Block → ℕ
elapsed d b = cond (b.input && b.last) (min (b.et + d) b.pt) 0

unfoldable pub ton : ℕ → Block → Block
ton d b = record {
  input = b.input;
  pt = b.pt;
  et = elapsed d b;
  q = b.input && leb b.pt (elapsed d b);
  last = b.input;
}

unfoldable pub with_in : Bool → Block → Block
with_in v b = record { input = v; pt = b.pt; et = b.et; q = b.q; last = b.last }

unfoldable pub with_pt : ℕ → Block → Block
with_pt v b = record { input = b.input; pt = v; et = b.et; q = b.q; last = b.last }

unfoldable pub flip_flop_on : List ℕ → ℕ → Bool
flip_flop_on fs n = eqb (get_or fs n 0) 1

-- what a test reads, under the input word x; no accepted program tests %QX, Tn.IN, Tn.PT or Tn
unfoldable pub value_of : ℕ → Controller → Operand → Bool
value_of x k (Mx n) = flip_flop_on k.flip_flops n
value_of x k (Ix n) = input_on x n
value_of x k (Qx n) = false
value_of x k (TimerQ n) = (block_at k.blocks n).q
value_of x k (TimerIn n) = false
value_of x k (TimerPt n) = false
value_of x k (Timer n) = false
value_of x k False = false
value_of x k True = true

unfoldable pub with_flip_flops : List ℕ → MidScan → MidScan
with_flip_flops fs w = record {
  result = w.result;
  deferred = w.deferred;
  time = w.time;
  outputs = w.outputs;
  controller = record { flip_flops = fs; blocks = w.controller.blocks };
}

unfoldable pub with_block : ℕ → (Block → Block) → MidScan → MidScan
with_block n f w = record {
  result = w.result;
  deferred = w.deferred;
  time = w.time;
  outputs = w.outputs;
  controller = record { flip_flops = w.controller.flip_flops; blocks = block_changed w.controller.blocks n f };
}

unfoldable pub with_outputs : List Bool → MidScan → MidScan
with_outputs os w = record {
  result = w.result;
  deferred = w.deferred;
  time = w.time;
  outputs = os;
  controller = w.controller;
}

-- v stored to an operand; Tn.PT takes the time
unfoldable pub stored_in : Bool → Operand → MidScan → MidScan
stored_in v (Mx n) w = with_flip_flops (set w.controller.flip_flops n (cond v 1 0)) w
stored_in v (Ix n) w = w
stored_in v (Qx n) w = with_outputs (set w.outputs (n - 1) v) w
stored_in v (TimerQ n) w = w
stored_in v (TimerIn n) w = with_block n (with_in v) w
stored_in v (TimerPt n) w = with_block n (with_pt w.time) w
stored_in v (Timer n) w = w
stored_in v False w = w
stored_in v True w = w

unfoldable pub block_called : ℕ → Operand → MidScan → MidScan
block_called d (Mx n) w = w
block_called d (Ix n) w = w
block_called d (Qx n) w = w
block_called d (TimerQ n) w = w
block_called d (TimerIn n) w = w
block_called d (TimerPt n) w = w
block_called d (Timer n) w = with_block n (ton d) w
block_called d False w = w
block_called d True w = w

unfoldable pub with_result : Bool → MidScan → MidScan
with_result v w = record {
  result = v;
  deferred = w.deferred;
  time = w.time;
  controller = w.controller;
  outputs = w.outputs;
}

-- another result, with other values deferred
abbrev pub with_deferred : Bool → List Bool → MidScan → MidScan
with_deferred v ds w = record {
  result = v;
  deferred = ds;
  time = w.time;
  controller = w.controller;
  outputs = w.outputs;
}

-- one instruction, with the scan step d and the input word x: "IL runs left to right without precedence. S and R act
-- only on a true result."
unfoldable pub executed : ℕ → ℕ → Operator → MidScan → MidScan
executed d x (Ld o) w = with_result (value_of x w.controller o) w
executed d x (Ldn o) w = with_result (not (value_of x w.controller o)) w
executed d x (And o) w = with_result (w.result && value_of x w.controller o) w
executed d x (Andn o) w = with_result (w.result && not (value_of x w.controller o)) w
executed d x Or w = with_deferred w.result (w.result ∷ w.deferred) w
executed d x Close w = with_deferred (head_d w.deferred false || w.result) (drop 1 w.deferred) w
executed d x (St o) w = stored_in w.result o w
executed d x (S o) w = cond w.result (stored_in true o w) w
executed d x (R o) w = cond w.result (stored_in false o w) w
executed d x (Cal o) w = block_called d o w
executed d x (LdTime n) w = record {
  result = w.result;
  deferred = w.deferred;
  time = n;
  controller = w.controller;
  outputs = w.outputs;
}

unfoldable pub executed_all : ℕ → ℕ → List Operator → MidScan → MidScan
executed_all d x [] w = w
executed_all d x (i ∷ is) w = executed_all d x is (executed d x i w)

-- "an output the program never stores is off"
unfoldable pub scan_begun : Controller → MidScan
scan_begun k =
    record { result = false; deferred = []; time = 0; controller = k; outputs = replicate most_outputs false }

-- the controller after a scan, and the output word
unfoldable pub scanned : ℕ → ℕ → List Operator → Controller → Controller
scanned d x is k = (executed_all d x is (scan_begun k)).controller

unfoldable pub output_word : ℕ → ℕ → List Operator → Controller → ℕ
output_word d x is k = word_of (executed_all d x is (scan_begun k)).outputs

-- the output word after each scan, and the controller after the last
unfoldable pub output_trace : ℕ → List Operator → Controller → List ℕ → List ℕ
output_trace d is k [] = []
output_trace d is k (x ∷ xs) = output_word d x is k ∷ output_trace d is (scanned d x is k) xs

unfoldable pub scanned_all : ℕ → List Operator → Controller → List ℕ → Controller
scanned_all d is k [] = k
scanned_all d is k (x ∷ xs) = scanned_all d is (scanned d x is k) xs

-- "All zero is the start."
unfoldable pub cleared : Program → Controller
cleared p = record {
  flip_flops = replicate (flip_flop_bytes (instructions p)) 0;
  blocks = replicate (length p.timers) blank;
}

-- 14 STATE is given for a lent controller that is not valid: "byte not 0 or 1, flip-flop bytes not one more than the
-- highest %MX the program names (0 if none), blocks not as many as declared, block with ET above its rung's time"
pub record ValidController (p : Program) (k : Controller) : Type 0 where
  pub bits : (b : ℕ) → b < length k.flip_flops → get_or k.flip_flops b 0 ≤ 1
  pub size : length k.flip_flops ≡ flip_flop_bytes (instructions p)
  pub blocks : length k.blocks ≡ length p.timers
  -- of block i + 1; r would stand where there is no rung, and none is missing
  pub times : (i : ℕ) (r : TimerRung) → i < length p.timers
      → (get_or k.blocks i blank).et ≤ (get_or p.timers i r).time
