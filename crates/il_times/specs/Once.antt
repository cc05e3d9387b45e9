-- No second answer of any function of this crate.
use Rattle.std.specs.Prelude.{◌≡◌, Bool, ◌↔◌, List, ℕ}
use Rattle.meaning.specs.Once.{Once}
use Rattle.meaning.proofs.Laws.Once.{is_once}
use Rattle.meaning.proofs.Laws.Rows.{same_test}
use Rattle.il_times.specs.Sizes.{rungs_in, no_rungs}
use Rattle.il_times.specs.Validity.{AreBits}

pub times_of_once : (ws : List ℕ) → Once (λ r. r ≡ (rungs_in ws no_rungs).times)
times_of_once ws = is_once (rungs_in ws no_rungs).times

pub are_bits_once : (fs : List ℕ) → Once (λ r. (r ≡ Bool.true) ↔ AreBits fs)
are_bits_once fs a b p q = same_test a b (λ e. q.1 (p.0 e)) (λ e. p.1 (q.0 e))
