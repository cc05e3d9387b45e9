-- Programs as the grammar of document 01's "The written text" makes them, and their instructions.
use Rattle.std.specs.Prelude.{ℕ, suc, max, Bool, true, false, ◌&&◌, ◌||◌, cond, length, leb}
use mathlib.Core.List.{List, [], ◌∷◌, ◌++◌, map, flat_map}
use Rattle.meaning.specs.Tables.{most_timers, most_preset, most_inputs, most_outputs}
use Rattle.meaning.specs.Literals.{between}
use Rattle.meaning.specs.declared.Operand.{Operand}
use Rattle.meaning.specs.declared.Operand.TheVariants.{Mx, Ix, Qx, TimerQ, TimerIn, TimerPt, Timer, False, True}
use Rattle.meaning.specs.declared.Operator.{Operator}
use Rattle.meaning.specs.declared.Operator.TheVariants.{Ld, Ldn, And, Andn, Or, Close, St, S, R, Cal, LdTime}

-- an operand and whether it is asked to be on
pub record Test : Type 0 where
  pub wanted : Bool
  pub operand : Operand

-- LD or LDN, then AND and ANDN
pub record Chain : Type 0 where
  pub first : Test
  pub more : List Test

-- AND or ANDN, or a bracket: "no group in a group"
pub data Part : Type 0 where
  also : Test → Part
  bracket : Chain → Part

-- "A body is LD or LDN, then AND, ANDN and OR( ) groups in any order"
pub record Body : Type 0 where
  pub first : Test
  pub parts : List Part

-- "one body and one or more of ST (on %MX or %QX), S, R (on %MX)"
pub record Rung : Type 0 where
  pub body : Body
  pub store : Operator
  pub stores : List Operator

-- a body and the time of the block
pub record TimerRung : Type 0 where
  pub body : Body
  pub time : ℕ

-- "timer rungs for exactly the declared blocks, .. in rising order, then any number of rungs"
pub record Program : Type 0 where
  pub timers : List TimerRung
  pub rungs : List Rung

-- ---- the instructions of a test, of a chain, and so on up to a program

unfoldable pub load_of : Test → Operator
load_of t = cond t.wanted (Ld t.operand) (Ldn t.operand)

unfoldable pub and_of : Test → Operator
and_of t = cond t.wanted (And t.operand) (Andn t.operand)

unfoldable pub chain_of : Chain → List Operator
chain_of h = load_of h.first ∷ map and_of h.more

unfoldable pub part_of : Part → List Operator
part_of (also t) = and_of t ∷ []
part_of (bracket h) = Or ∷ (chain_of h ++ (Close ∷ []))

unfoldable pub body_of : Body → List Operator
body_of b = load_of b.first ∷ flat_map part_of b.parts

unfoldable pub rung_of : Rung → List Operator
rung_of r = body_of r.body ++ (r.store ∷ r.stores)

-- the lines of block n: "ST Tn.IN, LD T#..ms, ST Tn.PT, CAL Tn"
unfoldable pub timer_rung_of : ℕ → TimerRung → List Operator
timer_rung_of n r = body_of r.body ++ (St (TimerIn n) ∷ LdTime r.time ∷ St (TimerPt n) ∷ Cal (Timer n) ∷ [])

unfoldable pub timer_rungs_from : ℕ → List TimerRung → List Operator
timer_rungs_from n [] = []
timer_rungs_from n (r ∷ rs) = timer_rung_of n r ++ timer_rungs_from (suc n) rs

unfoldable pub instructions : Program → List Operator
instructions p = timer_rungs_from 1 p.timers ++ flat_map rung_of p.rungs

-- every element passes
unfoldable pub all : {A : Type 0} → (A → Bool) → List A → Bool
all f [] = true
all f (x ∷ xs) = f x && all f xs

-- "%MX0 to %MX255"
abbrev pub most_mx : ℕ
most_mx = 255

-- by what an operand is: %MXn, %IXn, %QXn, Tn.Q, or any other
abbrev pub operand_case : {A : Type 0} → (ℕ → A) → (ℕ → A) → (ℕ → A) → (ℕ → A) → A → Operand → A
operand_case mx ix qx q any (Mx n) = mx n
operand_case mx ix qx q any (Ix n) = ix n
operand_case mx ix qx q any (Qx n) = qx n
operand_case mx ix qx q any (TimerQ n) = q n
operand_case mx ix qx q any (TimerIn n) = any
operand_case mx ix qx q any (TimerPt n) = any
operand_case mx ix qx q any (Timer n) = any
operand_case mx ix qx q any False = any
operand_case mx ix qx q any True = any

-- "Tests are on %IX1 to %IX64, %MX0 to %MX255, declared Tn.Q", with d blocks declared
unfoldable pub testable : ℕ → Operand → Bool
testable d = operand_case (λ n. leb n most_mx) (between 1 most_inputs) (λ n. false) (between 1 d) false

-- "stores reach the same %MX and %QX1 to %QX64"
unfoldable pub flip_flop_fits : Operand → Bool
flip_flop_fits = operand_case (λ n. leb n most_mx) (λ n. false) (λ n. false) (λ n. false) false

unfoldable pub output_fits : Operand → Bool
output_fits = operand_case (λ n. false) (λ n. false) (between 1 most_outputs) (λ n. false) false

-- TRUE or FALSE
unfoldable pub constant : Operand → Bool
constant (Mx n) = false
constant (Ix n) = false
constant (Qx n) = false
constant (TimerQ n) = false
constant (TimerIn n) = false
constant (TimerPt n) = false
constant (Timer n) = false
constant False = true
constant True = true

-- "TRUE and FALSE after LD only"
unfoldable pub load_fits : ℕ → Test → Bool
load_fits d t = testable d t.operand || (t.wanted && constant t.operand)

unfoldable pub chain_fits : ℕ → Chain → Bool
chain_fits d h = load_fits d h.first && all (λ t. testable d t.operand) h.more

unfoldable pub part_fits : ℕ → Part → Bool
part_fits d (also t) = testable d t.operand
part_fits d (bracket h) = chain_fits d h

unfoldable pub body_fits : ℕ → Body → Bool
body_fits d b = load_fits d b.first && all (part_fits d) b.parts

unfoldable pub store_fits : Operator → Bool
store_fits (Ld o) = false
store_fits (Ldn o) = false
store_fits (And o) = false
store_fits (Andn o) = false
store_fits Or = false
store_fits Close = false
store_fits (St o) = flip_flop_fits o || output_fits o
store_fits (S o) = flip_flop_fits o
store_fits (R o) = flip_flop_fits o
store_fits (Cal o) = false
store_fits (LdTime n) = false

unfoldable pub rung_fits : ℕ → Rung → Bool
rung_fits d r = body_fits d r.body && store_fits r.store && all store_fits r.stores

-- "Times are 1 to 86,400,000 ms."
unfoldable pub timer_rung_fits : ℕ → TimerRung → Bool
timer_rung_fits d r = body_fits d r.body && between 1 most_preset r.time

-- "T1 to at most T32"
unfoldable pub program_fits : Program → Bool
program_fits p = let d = length p.timers in
    leb d most_timers && all (timer_rung_fits d) p.timers && all (rung_fits d) p.rungs

-- the operand that an instruction carries, or FALSE, which names no %MX
unfoldable pub carried : Operator → Operand
carried (Ld o) = o
carried (Ldn o) = o
carried (And o) = o
carried (Andn o) = o
carried Or = False
carried Close = False
carried (St o) = o
carried (S o) = o
carried (R o) = o
carried (Cal o) = o
carried (LdTime n) = False

-- the bytes that an operand asks for: one more than the number of a flip-flop
unfoldable pub bytes_for : Operand → ℕ
bytes_for = operand_case suc (λ n. 0) (λ n. 0) (λ n. 0) 0

-- "one more than the highest %MX the program names (0 if none)"
unfoldable pub flip_flop_bytes : List Operator → ℕ
flip_flop_bytes [] = 0
flip_flop_bytes (i ∷ is) = max (bytes_for (carried i)) (flip_flop_bytes is)
