-- What `all` asked of the numbers below n is what every asks of them.
use Rattle.std.proofs.Common.{◌≡◌, sym, refl, rules, arith, ltb, ℕ, ◌-◌, ◌<◌, length, Bool, true, false}
use Rattle.std.specs.Bool.{MatchBool}
use Rattle.std.specs.List.{range_with_len, AllWithin, HoldsAt}
use Rattle.std.proofs.lemmas.Iterator.{cases_from_all, YieldsList-from_range}
use Rattle.std.proofs.lemmas.List.FromFn.{length-range_with_len, get_or-range_with_len}
use native.Mathlib.Nat.{zero-add}
use borrow.Author.Tests.{tests}
use Rattle.meaning.specs.Rows.{every}
use Rattle.meaning.proofs.Laws.Rows.{every_intro, every_no}
use Rattle.meaning.specs.Machine.{remembered}
use Rattle.chart_state_rules.proofs.codes_pass.Goals as goal

every_of : (p : ℕ → Bool) (n : ℕ) (r : Bool)
    → MatchBool r (AllWithin (λ a. p a ≡ true) (range_with_len 0 n) 0 (length (range_with_len 0 n)))
    ((k : ℕ) × (k < length (range_with_len 0 n)) × HoldsAt (λ a. p a ≡ false) (range_with_len 0 n) k)
    → r ≡ every p 0 n
every_of p n true h = sym (every_intro p n (λ k z. let l = length-range_with_len 0 n in rw (get_or-range_with_len, zero-add) at (h k 0 (omega arith) (omega (arith, l)))))
every_of p n false h =
    let l = length-range_with_len 0 n in
    let z : h.0 < n = omega (arith, h.1, l) in
    sym (every_no p n h.0 z (rw (get_or-range_with_len, zero-add) at (h.2 0)))

pub returns : goal.returns
returns c =
    let m = c.args.memory.now in
    let n = c.args.n in
    let some : n - 0 ≡ n = omega arith in
    every_of (λ a. ltb (remembered m a) n) n c.all.result
    (cases_from_all _ _ _ (λ a. ltb (remembered m a) n ≡ true) (λ a. ltb (remembered m a) n ≡ false) c.all.ensures.ran
    (YieldsList-from_range 0 n n refl some)
    (λ x q k. search (rules, tests)) (λ x q k. search (rules, tests)))
