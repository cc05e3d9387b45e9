-- Sets of things as words, a word for each class: number n is the bit of weight 2^(n-1). What a move needs, as two sets
-- in words, and as a move's words of a slice.
use Rattle.std.specs.Prelude.{◌≡◌, ℕ, ◌+◌, ◌*◌, ◌-◌, ◌/◌, ◌<◌, ◌≤◌, Bool, true, false, not, cond, ◌&&◌, ◌||◌, List, length, get_or, set, eqb, ltb}
use Rattle.std.specs.Int.Bits.{bit_and, bit_or}
use Rattle.meaning.specs.Rows.{least, most64}
use Rattle.meaning.specs.Tables.{Tables, literal_places}
use Rattle.meaning.specs.Literals.{input_on}
use Rattle.meaning.specs.Needs as N
use Rattle.meaning.specs.declared.Kind.{Kind}
use Rattle.meaning.specs.declared.Kind.TheVariants.{Unused, Input, Timer, Unknown}
use Rattle.slices.specs.Numbers.{with_number}
use Rattle.check_needs.specs.declared.ThingWords.{ThingWords}
use Rattle.check_needs.specs.declared.Needs.{Needs}

-- ---- sets

-- the numbers of a word
abbrev pub WordBits : ℕ → (ℕ → Bool) → Type 0
WordBits w f = (n : ℕ) → 1 ≤ n → n ≤ 64 → input_on w n ≡ f n

-- the words of a set
pub record InWords (w : ThingWords) (s : N.Things) : Type 0 where
  pub inputs : WordBits w.inputs s.inputs
  pub timers : WordBits w.timers s.timers

-- the set of words
abbrev pub set_of : ThingWords → N.Things
set_of w = record { inputs = input_on w.inputs; timers = input_on w.timers }

-- with what a literal of this kind names
abbrev pub with_named : ThingWords → Kind → ThingWords
with_named a Unused = a
with_named a (Input n) = record { inputs = with_number a.inputs n; timers = a.timers }
with_named a (Timer n) = record { inputs = a.inputs; timers = with_number a.timers n }
with_named a Unknown = a

abbrev pub union_words : ThingWords → ThingWords → ThingWords
union_words a b = record { inputs = bit_or a.inputs b.inputs; timers = bit_or a.timers b.timers }

-- what is not in a set
abbrev pub others : ThingWords → ThingWords
others a = record { inputs = most64 - a.inputs; timers = most64 - a.timers }

-- two words have a number in common
abbrev pub meets : ℕ → ℕ → Bool
meets x y = not (eqb (bit_and x y) 0)

abbrev pub meet_words : ThingWords → ThingWords → Bool
meet_words a b = meets a.inputs b.inputs || meets a.timers b.timers

-- ---- what moves need

-- one's on meets the other's off, class by class
abbrev pub clash_words : Needs → Needs → Bool
clash_words a b = (meets a.on.inputs b.off.inputs || meets b.on.inputs a.off.inputs)
    || (meets a.on.timers b.off.timers || meets b.on.timers a.off.timers)

-- nothing that is needed off is on, nothing that is needed on is off
abbrev pub hold_words : Needs → ThingWords → Bool
hold_words a v = not (meet_words a.off v) && not (meet_words a.on (others v))

-- what the first k literals of move i need
pub record NeedWords (c : Tables) (i k : ℕ) (w : Needs) : Type 0 where
  pub on : InWords w.on (N.needed_by c i k true)
  pub off : InWords w.off (N.needed_by c i k false)

-- ---- in a slice

-- so many words are a move's: one for each sign and class
abbrev pub need_words : ℕ
need_words = 4

abbrev pub no_needs : Needs
no_needs = record { on = record { inputs = 0; timers = 0 }; off = record { inputs = 0; timers = 0 } }

-- the words of move i
abbrev pub needs_at : List ℕ → ℕ → Needs
needs_at l i = record {
  on = record { inputs = get_or l (need_words * i) 0; timers = get_or l (need_words * i + 1) 0 };
  off = record { inputs = get_or l (need_words * i + 2) 0; timers = get_or l (need_words * i + 3) 0 };
}

-- l with the words of move i
abbrev pub needs_put : List ℕ → ℕ → Needs → List ℕ
needs_put l i w = set (set (set (set l (need_words * i) w.on.inputs) (need_words * i + 1) w.on.timers)
    (need_words * i + 2) w.off.inputs) (need_words * i + 3) w.off.timers

-- a move that needs a clashes with move j; a slice that is too short for move j has nothing to clash with
abbrev pub clash_at : List ℕ → Needs → ℕ → Bool
clash_at l a j = cond (ltb j (length l / need_words)) (clash_words a (needs_at l j)) false

-- the first of the moves from i to below n with which it does not clash; with none, n, or i if that is more
abbrev pub first_apart : List ℕ → Needs → ℕ → ℕ → ℕ
first_apart l a i n = least (λ j. not (clash_at l a j)) i (n - i)

-- move i needs what its words say
abbrev pub WordsAt : Tables → ℕ → List ℕ → Type 0
WordsAt c i l = NeedWords c i literal_places (needs_at l i)

-- so do the moves below n
abbrev pub WordsTo : Tables → ℕ → List ℕ → Type 0
WordsTo c n l = (i : ℕ) → i < n → WordsAt c i l
