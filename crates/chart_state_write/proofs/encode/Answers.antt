-- Place after place: the codes in front stay, and the values follow them to the end of the slice.
use Rattle.std.proofs.Common.{◌≡◌, ◌<◌, ◌≤◌, ◌+◌, ◌++◌, ℕ, ap, ◌∙◌, arith, length, take, get_or, set, List, length-append, length-take, ext_get_or, get_or-set_other}
use Rattle.std.proofs.Math.Decide.{ℕ_discrete}
use Rattle.std.proofs.lemmas.Grind.{common_steps}
use Rattle.meaning.specs.Tables.{timer_count}
use Rattle.meaning.proofs.Laws.Machine.{valid_sound}
use Rattle.meaning.specs.Lent.{lent_length, lent_of}
use Rattle.chart_scan.specs.Held.{held}
use Rattle.chart_state_read.specs.CodesLaws.{codes_lent}
use Rattle.chart_state_write.proofs.encode.Goals as goal

front : (l ts : List ℕ) (n k : ℕ) → k < n → k < length l → get_or l k 0 ≡ get_or (take n l ++ ts) k 0
front l ts n k h g = grind (arith, common_steps)

more : (s l ts : List ℕ) (n i : ℕ) → length s ≡ length l → i < length ts → n + i < length l → get_or (set s (n + i) (get_or ts i 0)) (n + i) 0 ≡ get_or (take n l ++ ts) (n + i) 0
more s l ts n i e h g = grind (arith, common_steps)

cut : (l ts : List ℕ) (n m k : ℕ) → n ≤ length l → m ≤ length ts → k < n + m → get_or (take n l ++ ts) k 0 ≡ get_or (take n l ++ take m ts) k 0
cut l ts n m k h g z = grind (arith, common_steps)

whole : (s l ts : List ℕ) (n m : ℕ) → length s ≡ n + m → length l ≡ n + m → m ≤ length ts
    → ((k : ℕ) → k < n + length ts → k < length s → get_or s k 0 ≡ get_or (take n l ++ ts) k 0) → s ≡ take n l ++ take m ts
whole s l ts n m e f g h = ext_get_or 0 s (take n l ++ take m ts) (simp (length-append, length-take) (omega arith)) (λ k z. h k (omega arith) z ∙ cut l ts n m k (omega arith) g (omega arith))

pub loop-i-init : goal.loop-i-init
loop-i-init c k h g = front c.write_codes-from.new.state c.args.timers.now c.write_codes-from.result k (omega arith) g

pub loop-i-preserved : goal.loop-i-preserved
loop-i-preserved c k h g =
    let b = c.loop-i in
    let n = c.write_codes-from.result in
    elim (ℕ_discrete k (n + b.i)) [
      | yes e ↦ rw (e, c.put.ensures) (more b.state c.write_codes-from.new.state c.args.timers.now n b.i (omega arith) c.loop-i-test.true (omega arith))
      | no d ↦ rw c.put.ensures (get_or-set_other b.state (n + b.i) k _ 0 d ∙ b.invariant k (omega arith) (omega arith))
    ]

pub returns : goal.returns
unfolding lent_of lent_length timer_count
returns c d e p R C lt v h =
    let a = c.args in
    let b = c.loop-i in
    let S = valid_sound d R (held d a.memory.now a.timers.now) v in
    let w = c.write_codes-from.ensures.1 d e R (omega (arith, h)) in
    let l = c.write_codes-from.new.state in
    let k : length l ≡ c.write_codes-from.result + timer_count d = omega (arith, h, w.0) in
    whole b.state l a.timers.now c.write_codes-from.result (timer_count d) (omega (arith, k)) k (omega (arith, lt, R.size.few_timers)) (λ j z y. b.invariant j (omega arith) y)
    ∙ ap (λ f. f ++ take (timer_count d) a.timers.now) (w.1 ∙ codes_lent d R a.memory.now a.codes.now C S)
