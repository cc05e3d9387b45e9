-- A line's effect, by the tests that the functions make.
use mathlib.Core.Path.{◌≡◌, ap}
use Prim.Native.Nat.{ℕ, suc, ◌≤◌}
use native.Mathlib.Omega.{arith}
use mathlib.Core.Bool.{Bool, true, false, ◌&&◌, ◌||◌, and-true, and-false}
use lib.Dec.{eqb, leb}
use borrow.Author.Tests.{eqb-true, le-leb, lt-leb}
use Rattle.meaning.proofs.Laws.Rows.{and_l}
use Rattle.meaning.specs.declared.Operator.{Operator}
use Rattle.format.specs.declared.Line.TheVariants.{Header, Var, Block, EndVar, Says, EndProgram}
use Rattle.format.specs.declared.Stage.TheVariants.{Title, Headed, Declaring, Rungs, Ended, Broken}
use Rattle.format.specs.declared.Page.{Page}
use Rattle.format.specs.declared.Reading.{Reading}
use Rattle.format.specs.Automata.Phases.{begin, phase_step, alive, may_end}
use Rattle.format.specs.Automata.Lines.{at_stage, turned, gone_on, turn}

pub next_block : (n b : ℕ) → n ≤ 32 → eqb n (suc b) ≡ (eqb n (suc b) && leb n 32)
next_block n b h = rw (le-leb n 32 h, and-true)

module _ (s : Page) (b : Bool) (t : Page) where
  pub turn_header : b ≡ at_stage Title s → t ≡ turned Headed s → gone_on b t s ≡ turn s Header
  unfolding turn
  turn_header e f = rw (e, f)

  pub turn_var : b ≡ at_stage Headed s → t ≡ turned Declaring s → gone_on b t s ≡ turn s Var
  unfolding turn
  turn_var e f = rw (e, f)

  pub turn_end : b ≡ (at_stage Headed s || at_stage Rungs s) → may_end s.reading ≡ true → t ≡ turned Ended s → gone_on b t s ≡ turn s EndProgram
  unfolding turn
  turn_end e h f = rw (e, f, h, and-true)

module _ (s : Page) where
  pub broken_end : may_end s.reading ≡ false → turned Broken s ≡ turn s EndProgram
  unfolding turn
  broken_end h = rw (h, and-false)

  pub turn_block : (b : Bool) (n : ℕ) → (eqb n (suc s.blocks) && leb n 32) ≡ true → b ≡ at_stage Declaring s → gone_on b (record { stage = Declaring; blocks = n; reading = s.reading }) s ≡ turn s (Block n)
  unfolding turn
  turn_block b n h e = rw (h, and-true, e) (ap (λ k. gone_on (at_stage Declaring s) (record { stage = Declaring; blocks = k; reading = s.reading }) s) (eqb-true n (suc s.blocks) (and_l (eqb n (suc s.blocks)) _ h)))

  pub broken_block : (n : ℕ) → (eqb n (suc s.blocks) && leb n 32) ≡ false → turned Broken s ≡ turn s (Block n)
  unfolding turn
  broken_block n h = rw (h, and-false)

  pub turn_end_var : (b : Bool) (r : Reading) → 1 ≤ s.blocks → b ≡ at_stage Declaring s → r ≡ begin s.blocks s.blocks → gone_on b (record { stage = Rungs; blocks = s.blocks; reading = r }) s ≡ turn s EndVar
  unfolding turn
  turn_end_var b r h e f = rw (le-leb 1 s.blocks h, and-true, e, f)

  pub broken_end_var : s.blocks ≡ 0 → turned Broken s ≡ turn s EndVar
  unfolding turn
  broken_end_var h = rw (lt-leb 1 s.blocks (omega arith), and-false)

  module _ (i : Operator) (r : Reading) (f : r ≡ phase_step s.reading i) where
    pub turn_says : (b : Bool) → alive r ≡ true → b ≡ (at_stage Headed s || at_stage Rungs s) → gone_on b (record { stage = Rungs; blocks = s.blocks; reading = r }) s ≡ turn s (Says i)
    unfolding turn
    turn_says b h e = rw (← f, h, and-true, e)

    pub broken_says : alive r ≡ false → turned Broken s ≡ turn s (Says i)
    unfolding turn
    broken_says h = rw (← f, h, and-false)
