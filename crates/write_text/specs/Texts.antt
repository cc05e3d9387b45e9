-- What the writer of a chart's text answers and leaves, for any tables.
use Rattle.meaning.specs.Refusals.{Answer}
use Rattle.meaning.specs.Refusals.{Verdict}
use Rattle.std.specs.Prelude.{◌≡◌, Bool, true, false, cond, List, ℕ, length, take, drop, leb, Ok, Err}
use Rattle.std.proofs.Common.{sym, ◌∙◌, arith, take_at}
use Rattle.meaning.specs.Tables.{Tables}
use Rattle.meaning.specs.Check.{verdict}
use Rattle.meaning.specs.Rules.{Rules}
use Rattle.meaning.proofs.Laws.Verdict.{accepted_exactly}
use Rattle.meaning.specs.Calls.{overlaid}
use Rattle.meaning.specs.declared.Refusal.{Refusal}
use Rattle.meaning.specs.declared.Refusal.TheVariants as R
use Rattle.format.specs.Places.{room}
use Rattle.format.specs.Printed.{chart_text}
use Rattle.format.specs.Bytes.{Translates}
use Rattle.format.proofs.Laws.Bytes.{chart_translated}
use Rattle.format.specs.TextWritten.{text_answer, text_left, TextWritten}

-- refusals 1 to 11, then ROOM with the length of the text, else its length
abbrev pub chart_answer : Tables → List ℕ → Verdict → Answer
chart_answer c l (Ok tt) = text_answer (chart_text c) l
chart_answer c l (Err r) = Err r

-- the text from the front, the rest kept; "A refusal writes nothing."
abbrev pub chart_left : Tables → List ℕ → Verdict → List ℕ
chart_left c l (Ok tt) = text_left (chart_text c) l
chart_left c l (Err r) = l

-- from the slice l to m, with the answer a; and what is written is a translation of the chart: demands 2 and 3 hold of its bytes
pub record ChartWritten (c : Tables) (l : List ℕ) (a : Answer) (m : List ℕ) : Type 0 where
  pub answer : a ≡ chart_answer c l (verdict c)
  pub out : m ≡ chart_left c l (verdict c)
  pub translates : (n : ℕ) → a ≡ Ok n → Translates c (take n m)

-- no second answer
pub one_text : (c : Tables) (l : List ℕ) (a b : Answer) (m n : List ℕ) → ChartWritten c l a m → ChartWritten c l b n → (a ≡ b) × (m ≡ n)
one_text c l a b m n p q = (p.answer ∙ sym q.answer, p.out ∙ sym q.out)

pub refused_tables : (c : Tables) (l : List ℕ) (r : Refusal) → verdict c ≡ Err r → ChartWritten c l (Err r) l
refused_tables c l r e = record { answer = rw e; out = rw e; translates = λ n z. absurd (let o : ◌≡◌ {A = ℕ} 0 1 = cc in omega arith) }

-- the text at the front of a slice that has room for it
front : (c : Tables) → Rules c → (l : List ℕ) (b : Bool) (n : ℕ)
    → cond b (Ok (length (chart_text c))) (Err (R.Room (room (length (chart_text c))))) ≡ Ok n → Translates c (take n (cond b (overlaid (chart_text c) l) l))
unfolding overlaid
front c R l true n e =
    let k : length (chart_text c) ≡ n = cc in
    rw (take_at (chart_text c) (drop (length (chart_text c)) l) n k) (chart_translated c R)
front c R l false n e = absurd (let o : ◌≡◌ {A = ℕ} 0 1 = cc in omega arith)

pub accepted_tables : (c : Tables) (l : List ℕ) (a : Answer) (m : List ℕ) → verdict c ≡ (Ok tt) → TextWritten (chart_text c) l a m → ChartWritten c l a m
accepted_tables c l a m e p = record {
  answer = rw e p.answer;
  out = rw e p.out;
  translates = λ n z. rw p.out (front c ((accepted_exactly c).0 e) l (leb (length (chart_text c)) (length l)) n (sym p.answer ∙ z));
}
