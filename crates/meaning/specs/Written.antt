-- The program of a chart: document 01, "The written text", parts 1 to 4.
use Rattle.std.specs.Prelude.{ℕ, zero, suc, ◌+◌, ◌-◌, ◌/◌, ◌%◌, Bool, true, cond, eqb, nat_abs}
use mathlib.Core.List.{List, [], ◌∷◌, ◌++◌, map, flat_map}
use Rattle.meaning.specs.Rows.{table}
use Rattle.meaning.specs.Tables.{Tables, most_depth, literal_places, move_count, timer_count, pair_count, super_state}
use Rattle.meaning.specs.Tables.{initial, source, target, mark, literal, preset, pair_number, pair_state}
use Rattle.meaning.specs.Hierarchy.{depth, is_leaf}
use Rattle.meaning.specs.Layout.{group_width, group_first, flip_flop_count, code}
use Rattle.meaning.specs.Literals.{kind_of, wanted}
use Rattle.meaning.specs.Programs.{Test, Chain, also, bracket, Body, Rung, TimerRung, Program}
use Rattle.meaning.specs.declared.Kind.{Kind}
use Rattle.meaning.specs.declared.Kind.TheVariants as K
use Rattle.meaning.specs.declared.Operand.{Operand}
use Rattle.meaning.specs.declared.Operand.TheVariants.{Mx, Ix, Qx, TimerQ, False, True}
use Rattle.meaning.specs.declared.Operator.{Operator}
use Rattle.meaning.specs.declared.Operator.TheVariants.{St, S, R}

-- the operands of a chart: its flip-flop b, that one's working copy, Tt.Q of its timer t, its output o
abbrev pub flip_flop : Tables → ℕ → Operand
flip_flop c b = Mx b

-- "With B flip-flops, the working copy of %MXb is %MX(B + b)"
abbrev pub working_copy : Tables → ℕ → Operand
working_copy c b = Mx (flip_flop_count c + b)

abbrev pub timer_q : Tables → ℕ → Operand
timer_q c t = TimerQ t

abbrev pub output : Tables → ℕ → Operand
output c o = Qx o

-- the w lowest bits of the code k, lowest first, each with its place from o on
unfoldable pub bits_from : {A : Type 0} → (Bool → ℕ → A) → ℕ → ℕ → ℕ → List A
bits_from f o zero k = []
bits_from f o (suc w) k = f (eqb (k % 2) 1) o ∷ bits_from f (suc o) w (k / 2)

-- the group of a at the code of its sub-state s
unfoldable pub group_bits : {A : Type 0} → Tables → (Bool → ℕ → A) → ℕ → ℕ → List A
group_bits c f a s = bits_from f (group_first c a) (group_width c a) (code c s)

-- the groups that lead from the root down to s, k levels below it
unfoldable pub path_bits : {A : Type 0} → Tables → (Bool → ℕ → A) → ℕ → ℕ → List A
path_bits c f zero s = []
path_bits c f (suc k) s = path_bits c f k (super_state c s) ++ group_bits c f (super_state c s) s

unfoldable pub bit_test : Tables → Bool → ℕ → Test
bit_test c w b = record { wanted = w; operand = flip_flop c b }

-- "A state is the AND of its path's code bits, root down, low bit first"
unfoldable pub state_tests : Tables → ℕ → List Test
state_tests c s = path_bits c (bit_test c) (depth c s) s

-- the test of a literal; Unknown is never asked, LITERAL refuses it first
unfoldable pub kind_test : Tables → Bool → Kind → List Test
kind_test c w K.Unused = []
kind_test c w (K.Input i) = record { wanted = w; operand = Ix i } ∷ []
kind_test c w (K.Timer t) = record { wanted = w; operand = timer_q c t } ∷ []
kind_test c w K.Unknown = []

-- "literals in order (%IXi or Tn.Q)"
unfoldable pub literal_tests : Tables → ℕ → List Test
literal_tests c i = flat_map (λ z. kind_test c (wanted z) (kind_of (nat_abs z))) (table (literal c i) 0 literal_places)

-- "LD or LDN, then AND or ANDN; with no bits and no literals LD TRUE"
unfoldable pub chain : List Test → Chain
chain [] = record { first = record { wanted = true; operand = True }; more = [] }
chain (t ∷ ts) = record { first = t; more = ts }

-- "Each further state of an OR: OR( on its own line, its lines, ) on its own line. No states: LD FALSE."
unfoldable pub or_body : List (List Test) → Body
or_body [] = record { first = record { wanted = true; operand = False }; parts = [] }
or_body (ts ∷ tss) = record {
  first = (chain ts).first;
  parts = map also (chain ts).more ++ map (λ us. bracket (chain us)) tss;
}

unfoldable pub and_body : List Test → Body
and_body ts = or_body (ts ∷ [])

-- the states paired with n, in the order of the pairs
unfoldable pub pair_states : List ℕ → ℕ → List ℕ
pair_states ps n =
    flat_map (λ i. cond (eqb (pair_number ps i) n) (pair_state ps i ∷ []) []) (table (λ i. i) 0 (pair_count ps))

unfoldable pub pairs_body : Tables → List ℕ → ℕ → Body
pairs_body c ps n = or_body (map (state_tests c) (pair_states ps n))

-- 1. "the OR of its pairs' states, ST Tn.IN, LD T#..ms, ST Tn.PT, CAL Tn"
unfoldable pub timer_rung : Tables → ℕ → TimerRung
timer_rung c t = record { body = pairs_body c c.timer_pairs t; time = preset c t }

-- S or R on the working copy of a flip-flop
unfoldable pub bit_store : Tables → Bool → ℕ → Operator
bit_store c w b = cond w (S (working_copy c b)) (R (working_copy c b))

-- the groups of t, "if a super-state, and those reached below it by initial sub-states", k levels at most
unfoldable pub initial_stores : Tables → ℕ → ℕ → List Operator
initial_stores c zero t = []
initial_stores c (suc k) t =
    cond (is_leaf c t) [] (group_bits c (bit_store c) t (initial c t) ++ initial_stores c k (initial c t))

-- at and below the target mark 0 sets the initial path, mark 1 nothing
unfoldable pub stores_from : Tables → ℕ → ℕ → List Operator
stores_from c zero t = initial_stores c (most_depth - depth c t) t
stores_from c (suc k) t = []

-- "S or R on the working copy of each flip-flop the move sets, groups from the root down, low bit first"
unfoldable pub move_stores : Tables → ℕ → List Operator
move_stores c i = path_bits c (bit_store c) (depth c (target c i)) (target c i) ++ stores_from c (mark c i) (target c i)

-- a body with stores; "A rung that would set no flip-flop is left out."
unfoldable pub rung_with : Body → List Operator → List Rung
rung_with b [] = []
rung_with b (s ∷ ss) = record { body = b; store = s; stores = ss } ∷ []

-- 2. "source, then literals in order (%IXi or Tn.Q), then S or R"
unfoldable pub move_rungs : Tables → ℕ → List Rung
move_rungs c i = rung_with (and_body (state_tests c (source c i) ++ literal_tests c i)) (move_stores c i)

-- 3. "Each flip-flop: LD working copy, ST flip-flop."
unfoldable pub copy_rungs : Tables → ℕ → List Rung
copy_rungs c b =
    rung_with (and_body (record { wanted = true; operand = working_copy c b } ∷ [])) (St (flip_flop c b) ∷ [])

-- 4. "the OR of its pairs' states, ST %QXo"
unfoldable pub output_rungs : Tables → ℕ → List Rung
output_rungs c o = rung_with (pairs_body c c.output_pairs o) (St (output c o) ∷ [])

unfoldable pub program : Tables → Program
program c = record {
  timers = table (timer_rung c) 1 (timer_count c);
  rungs = flat_map (move_rungs c) (table (λ i. i) 0 (move_count c))
      ++ (flat_map (copy_rungs c) (table (λ b. b) 0 (flip_flop_count c))
      ++ flat_map (output_rungs c) (table (λ o. o) 1 c.outputs));
}
