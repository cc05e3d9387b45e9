-- No second answer of either function of this crate, where the checks before it have passed.
use Rattle.std.specs.Prelude.{◌≡◌, refl, List, ℕ, suc, ◌/◌, ◌<◌, length, Option, Some, None}
use Rattle.std.proofs.Common.{sym, ap, ◌∙◌, arith}
use Rattle.meaning.specs.Once.{Once}
use Rattle.meaning.specs.Tables.{Tables}
use Rattle.meaning.specs.Check.{overlap_passes}
use Rattle.tables.specs.declared.ChartTables.{ChartTables}
use Rattle.tables.specs.Given.{given}
use Rattle.check_tree.specs.Falling.{Falling}
use Rattle.check_needs.specs.Words.{need_words, WordsTo}
use Rattle.check_overlap.specs.Told.{EarlierTold}

same_told : (c : Tables) (i : ℕ) (x y : Option ℕ) → EarlierTold c i x → EarlierTold c i y → x ≡ y
same_told c i None None p q = refl
same_told c i None (Some j) p q = absurd (omega (arith, p, q.0, q.1))
same_told c i (Some j) None p q = absurd (omega (arith, q, p.0, p.1))
same_told c i (Some j) (Some k) p q = ap Some (p.1 ∙ sym q.1)

pub earlier_once : (t : ChartTables) (ws : List ℕ) (i : ℕ) → Falling (given t) → i < length ws / need_words → WordsTo (given t) (suc i) ws
    → Once (λ r. Falling (given t) → i < length ws / need_words → WordsTo (given t) (suc i) ws → EarlierTold (given t) i r)
earlier_once t ws i f h j x y p q = same_told (given t) i x y (p f h j) (q f h j)

pub overlap_passes_once : (t : ChartTables) (ws : List ℕ) (i : ℕ) → Falling (given t) → i < length ws / need_words → WordsTo (given t) (suc i) ws
    → Once (λ r. Falling (given t) → i < length ws / need_words → WordsTo (given t) (suc i) ws → r ≡ overlap_passes (given t) i)
overlap_passes_once t ws i f h j x y p q = p f h j ∙ sym (q f h j)
