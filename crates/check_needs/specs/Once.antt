-- No second answer of any function of this crate.
use Rattle.std.specs.Prelude.{◌≡◌, List, ℕ, ◌/◌, ◌<◌, ◌≤◌, length}
use Rattle.std.proofs.Common.{sym, ◌∙◌, arith}
use Rattle.std.proofs.Math.Decide.{dec_le}
use Rattle.std.specs.Int.Bits.{bit_or}
use Rattle.meaning.specs.Once.{Once}
use Rattle.meaning.proofs.Laws.Once.{is_once}
use Rattle.meaning.specs.declared.Kind.{Kind}
use Rattle.check_needs.specs.declared.ThingWords.{ThingWords}
use Rattle.check_needs.specs.declared.Needs.{Needs}
use Rattle.check_needs.specs.Words.{with_named, union_words, hold_words, first_apart}
use Rattle.check_needs.specs.Words.{need_words, no_needs, needs_at, needs_put}

pub with_named_once : (s : ThingWords) (kind : Kind) → Once (λ r. r ≡ with_named s kind)
with_named_once s kind = is_once (with_named s kind)

pub union_once : (a b : ThingWords) → Once (λ r. r ≡ union_words a b)
union_once a b = is_once (union_words a b)

pub hold_once : (a : Needs) (on : ThingWords) → Once (λ r. r ≡ hold_words a on)
hold_once a on = is_once (hold_words a on)

pub timers_named_once : (a : Needs) → Once (λ r. r ≡ bit_or a.on.timers a.off.timers)
timers_named_once a = is_once (bit_or a.on.timers a.off.timers)

-- with room for the move's words, or without
by_room : {A : Type 0} (n i : ℕ) (v w : A) → Once (λ r. (i < n → r ≡ v) × (n ≤ i → r ≡ w))
by_room n i v w x y p q = elim (dec_le n i) [ yes h ↦ p.1 h ∙ sym (q.1 h) | no h ↦ p.0 (omega arith) ∙ sym (q.0 (omega arith)) ]

pub needs_at_once : (l : List ℕ) (i : ℕ) → Once (λ r. (i < length l / need_words → r ≡ needs_at l i) × (length l / need_words ≤ i → r ≡ no_needs))
needs_at_once l i = by_room (length l / need_words) i (needs_at l i) no_needs

pub put_needs_once : (l : List ℕ) (i : ℕ) (a : Needs) → Once (λ m. (i < length l / need_words → m ≡ needs_put l i a) × (length l / need_words ≤ i → m ≡ l))
put_needs_once l i a = by_room (length l / need_words) i (needs_put l i a) l

pub first_apart_once : (l : List ℕ) (a : Needs) (from to : ℕ) → Once (λ r. r ≡ first_apart l a from to)
first_apart_once l a from to = is_once (first_apart l a from to)
