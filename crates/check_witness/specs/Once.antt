-- No second answer of the function of this crate.
use Rattle.meaning.specs.Refusals.{Verdict}
use Rattle.std.specs.Prelude.{◌≡◌, Bool, ◌⊎◌, ◌≢◌, ℕ, suc, ◌<◌, ◌^◌, Ok, Err}
use Rattle.std.proofs.Common.{sym, ap, ◌∙◌, inl, inr, arith}
use Rattle.std.proofs.Math.Decide.{ℕ_discrete}
use Rattle.meaning.specs.Once.{Once}
use Rattle.meaning.proofs.Laws.Bits.{same_bits}
use Rattle.meaning.specs.Refusals.{number_of, place_of}
use Rattle.meaning.specs.Tables.{Tables}
use Rattle.meaning.specs.Check.{verdict}
use Rattle.meaning.specs.declared.Refusal.TheVariants as R
use Rattle.check_needs.specs.Words.{WordBits}
use Rattle.check_witness.specs.declared.Witness.{Witness}
use Rattle.check_witness.specs.Shown.{OverlapShown, Witnessed}
use Rattle.check_witness.specs.Passed.{is_overlap, no_overlap, accepted_no_overlap}

-- ---- sets in words

same_word : {f : ℕ → Bool} (w v : ℕ) → w < 2 ^ 64 → v < 2 ^ 64 → WordBits w f → WordBits v f → w ≡ v
same_word w v h g p q = same_bits 64 w v h g (λ n z. p (suc n) (omega arith) (omega arith) ∙ sym (q (suc n) (omega arith) (omega arith)))

-- ---- an OVERLAP or not

overlap_or_not : (v : Verdict) → ((i : ℕ) × (v ≡ Err (R.Overlap i))) ⊎ ((i : ℕ) → v ≢ Err (R.Overlap i))
overlap_or_not (Ok tt) = inr accepted_no_overlap
overlap_or_not (Err r) = elim (ℕ_discrete (number_of r) 10) [ yes e ↦ inl (place_of r, ap Err (is_overlap r e)) | no n ↦ inr (no_overlap r n) ]

module _ (c : Tables) (x y : Witness) where
  -- what is shown of an OVERLAP
  same_shown : (i : ℕ) → x.verdict ≡ y.verdict → OverlapShown c i x → OverlapShown c i y → x ≡ y
  same_shown i e p q = λ k. record {
    verdict = e k;
    earlier = (p.earlier ∙ sym q.earlier) k;
    state = (p.state ∙ sym q.state) k;
    on = record {
      inputs = same_word x.on.inputs y.on.inputs p.on_small.inputs q.on_small.inputs p.on.inputs q.on.inputs k;
      timers = same_word x.on.timers y.on.timers p.on_small.timers q.on_small.timers p.on.timers q.on.timers k;
    };
    off = record {
      inputs = same_word x.off.inputs y.off.inputs p.off_small.inputs q.off_small.inputs p.off.inputs q.off.inputs k;
      timers = same_word x.off.timers y.off.timers p.off_small.timers q.off_small.timers p.off.timers q.off.timers k;
    };
  }

  same_witness : Witnessed c x → Witnessed c y → x ≡ y
  same_witness p q = elim (overlap_or_not (verdict c)) [
    | inl (i, e) ↦ same_shown i (p.answer ∙ sym q.answer) (p.overlap i e) (q.overlap i e)
    | inr n ↦ p.other n ∙ sym (q.other n)
  ]

pub check_once : (c : Tables) → Once (λ w. Witnessed c w)
check_once c x y p q = same_witness c x y p q
