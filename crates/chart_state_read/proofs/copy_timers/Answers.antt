-- What `get` finds is the end of the slice; where it finds none, the slice ends before it.
use Rattle.std.proofs.Common.{◌≡◌, refl, sym, ◌∙◌, arith, ◌⊎◌, inl, inr, ℕ, ◌+◌, ◌-◌, ◌≤◌, ◌<◌, List, [], length, drop, get_or, get_or-drop, length-drop, Bor, Option, Some, None}
use Rattle.std.specs.Option.{MatchOption, unwrap_or}
use Rattle.std.specs.List.{slice_range}
use Rattle.std.proofs.Math.ListN.{get_or-eq_default}
use lib.Seq.{take_all}
use Rattle.chart_state_read.proofs.copy_timers.Goals as goal

end_of : (r : Option (Bor (List ℕ))) (none : Bor (List ℕ)) (l : List ℕ) (n i : ℕ) → none.now ≡ []
    → MatchOption r ((length l < n) ⊎ (length l < length l)) (λ x. (n ≤ length l) × (length l ≤ length l) × (x.now ≡ slice_range l n (length l)) × (length x.now + n ≡ length l))
    → get_or (unwrap_or r none).now i 0 ≡ get_or l (n + i) 0
end_of None none l n i e (inl h) = rw e (sym (get_or-eq_default l 0 {n = n + i} (omega arith)))
end_of None none l n i e (inr h) = absurd (omega arith)
end_of (Some x) none l n i e h =
    let k : slice_range l n (length l) ≡ drop n l = take_all (length l - n) (drop n l) (omega (arith, length-drop n l)) in
    rw (h.2, k) (get_or-drop n l i 0)

pub returns : goal.returns
returns c i h = c.loop-i.invariant i (omega arith) ∙ rw c.unwrap_or-values.ensures (end_of c.get.result _ c.args.state.now c.args.from i refl c.get.ensures.lookup.0)
