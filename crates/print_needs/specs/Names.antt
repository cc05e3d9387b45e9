-- Names written one after the other, with a space between two: what a cursor carries, and the laws of it.
use Rattle.std.specs.Prelude.{◌≡◌, refl, Bool, true, false, cond, ◌||◌, ℕ, zero, suc, ◌+◌, ◌≤◌, length}
use Rattle.std.proofs.Common.{sym, ap, ◌∙◌, true≢false, arith}
use Rattle.std.proofs.Math.Bool.{or-true, or-false}
use Rattle.std.proofs.lemmas.Bool.{false≢true}
use mathlib.Core.List.{List, [], ◌∷◌, ◌++◌, flat_map, append_assoc, append-nil}
use Rattle.meaning.specs.Rows.{table, most64}
use Rattle.meaning.proofs.Laws.Rows.{flat_map_append, rows_snoc}
use Rattle.meaning.specs.Tables.{most_inputs, most_timers}
use Rattle.meaning.specs.Literals.{input_on}
use Rattle.meaning.specs.Needs as N
use Rattle.meaning.specs.declared.Operand.TheVariants.{Ix, TimerQ}
use Rattle.format.specs.Text.{bytes, decimal, operand_text}
use Rattle.format.specs.NeedsTable.{names_of, thing_names, spaced, things_text}
use Rattle.write_lines.specs.Put.{BytesPut, put_put, put_none}
use Rattle.check_needs.specs.declared.ThingWords.{ThingWords}
use Rattle.check_needs.specs.Words.{InWords, set_of}
use Rattle.print_needs.specs.declared.NameCursor.{NameCursor}

-- a space before each
abbrev pub apart : List (List ℕ) → List ℕ
apart ws = flat_map (λ v. 32 ∷ v) ws

-- names after others, where t is true; else the first has no space before it
unfoldable pub after : Bool → List (List ℕ) → List ℕ
after true ws = apart ws
after false [] = []
after false (w ∷ ws) = w ++ apart ws

abbrev pub any_name : List (List ℕ) → Bool
any_name [] = false
any_name (w ∷ ws) = true

-- the names ws written over l where p stands
pub record NamesPut (l : List ℕ) (p : NameCursor) (ws : List (List ℕ)) (m : List ℕ) (r : NameCursor) : Type 0 where
  pub put : BytesPut l p.at (after p.some ws) m r.at
  pub some : r.some ≡ (p.some || any_name ws)

-- the space before a name
abbrev pub gap : Bool → List ℕ
gap true = 32 ∷ []
gap false = []

-- ---- the laws

after_after : (t : Bool) (v w : List (List ℕ)) → after t (v ++ w) ≡ after t v ++ after (t || any_name v) w
unfolding after
after_after true v w = flat_map_append (λ x. 32 ∷ x) v w
after_after false [] w = refl
after_after false (x ∷ v) w = ap (λ l. x ++ l) (flat_map_append (λ y. 32 ∷ y) v w) ∙ sym (append_assoc x (apart v) (apart w))

any_name_append : (t : Bool) (v w : List (List ℕ)) → ((t || any_name v) || any_name w) ≡ (t || any_name (v ++ w))
any_name_append true v w = refl
any_name_append false [] w = refl
any_name_append false (x ∷ v) w = refl

-- names, then more
pub names_names : {l m n : List ℕ} {p q r : NameCursor} {v w : List (List ℕ)} → NamesPut l p v m q → NamesPut m q w n r → NamesPut l p (v ++ w) n r
names_names {l} {m} {n} {p} {q} {r} {v} {w} a b = record {
  put = rw (after_after p.some v w, ← a.some) (put_put a.put b.put);
  some = b.some ∙ ap (λ t. t || any_name w) a.some ∙ any_name_append p.some v w;
}

after_one : (t : Bool) (w : List ℕ) → gap t ++ w ≡ after t (w ∷ [])
unfolding after flat_map
after_one true w = ap (λ l. 32 ∷ l) (sym (append-nil w))
after_one false w = sym (append-nil w)

pub one_name : {l m w : List ℕ} {p : NameCursor} {r : ℕ} → BytesPut l p.at (gap p.some ++ w) m r → NamesPut l p (w ∷ []) m (record { at = r; some = true })
one_name {l} {m} {w} {p} {r} a = record { put = rw (← after_one p.some w) a; some = sym (or-true p.some) }

after_none : (t : Bool) → after t [] ≡ []
unfolding after flat_map
after_none true = refl
after_none false = refl

pub no_name : (l : List ℕ) (p : NameCursor) → length l ≤ most64 → p.at ≤ most64 → NamesPut l p [] l p
no_name l p h g = record { put = rw (after_none p.some) (put_none l p.at h g); some = sym (or-false p.some) }

-- the names of one number more
pub names_more : (name : ℕ → List ℕ) (f : ℕ → Bool) (n : ℕ) → names_of name f (suc n) ≡ names_of name f n ++ cond (f (suc n)) (name (suc n) ∷ []) []
unfolding names_of
names_more name f n = let e : 1 + n ≡ suc n = omega arith in rows_snoc (λ k. cond (f k) (name k ∷ []) []) 1 n ∙ rw e

-- the name alone of a number that follows
pub names_next : (name : ℕ → List ℕ) (f : ℕ → Bool) (n : ℕ) → f (suc n) ≡ true → names_of name f (suc n) ≡ names_of name f n ++ (name (suc n) ∷ [])
names_next name f n e = names_more name f n ∙ rw e

-- no name of a number that is not there
pub names_kept : (name : ℕ → List ℕ) (f : ℕ → Bool) (n : ℕ) → f (suc n) ≡ false → names_of name f (suc n) ≡ names_of name f n
names_kept name f n e = names_more name f n ∙ rw e (append-nil (names_of name f n))

pub names_none : (name : ℕ → List ℕ) (f : ℕ → Bool) → names_of name f 0 ≡ []
unfolding names_of table flat_map
names_none name f = refl

-- ---- a set

-- the same names, spelt in another way
pub names_spelt : (v w : ℕ → List ℕ) (f : ℕ → Bool) (n : ℕ) → ((k : ℕ) → v k ≡ w k) → names_of v f n ≡ names_of w f n
names_spelt v w f n e = ap (λ name. names_of name f n) (λ i k. e k i)

pub names_same : (name : ℕ → List ℕ) (f g : ℕ → Bool) (n : ℕ) → ((k : ℕ) → 1 ≤ k → k ≤ n → f k ≡ g k) → names_of name f n ≡ names_of name g n
names_same name f g zero h = names_none name f ∙ sym (names_none name g)
names_same name f g (suc n) h = names_more name f n ∙ rw (names_same name f g n (λ k a b. h k a (omega arith)), h (suc n) (omega arith) (omega arith)) (sym (names_more name g n))

things_same : (w : ThingWords) (s : N.Things) → InWords w s → thing_names (set_of w) ≡ thing_names s
unfolding thing_names
things_same w s h = rw (names_same (λ n. operand_text (Ix n)) (input_on w.inputs) s.inputs most_inputs h.inputs, names_same (λ t. operand_text (TimerQ t)) (input_on w.timers) s.timers most_timers (λ k a b. h.timers k a (omega arith)))

spaced_some : (ws : List (List ℕ)) → any_name ws ≡ true → after false ws ≡ spaced ws
unfolding after spaced
spaced_some [] e = absurd (false≢true e)
spaced_some (w ∷ ws) e = refl

spaced_none : (ws : List (List ℕ)) → any_name ws ≡ false → after false ws ++ (45 ∷ []) ≡ spaced ws
unfolding after spaced
spaced_none [] e = refl
spaced_none (w ∷ ws) e = absurd (true≢false e)

-- the two classes of a set, the one after the other
pub record SetPut (l : List ℕ) (at : ℕ) (w : ThingWords) (m : List ℕ) (r : NameCursor) : Type 0 where
  pub names : NamesPut l (record { at = at; some = false }) (thing_names (set_of w)) m r

-- a number between a head and a tail
abbrev pub between_parts : List ℕ → List ℕ → ℕ → List ℕ
between_parts head tail n = head ++ (decimal n ++ tail)

input_named : (n : ℕ) → between_parts (bytes "%IX") [] n ≡ operand_text (Ix n)
unfolding operand_text
input_named n = ap (λ l. bytes "%IX" ++ l) (append-nil (decimal n))

timer_named : (n : ℕ) → between_parts (bytes "T") (bytes ".Q") n ≡ operand_text (TimerQ n)
unfolding operand_text
timer_named n = refl

pub set_put : {l m n : List ℕ} {at : ℕ} {w : ThingWords} {q r : NameCursor}
    → NamesPut l (record { at = at; some = false }) (names_of (between_parts (bytes "%IX") []) (input_on w.inputs) most_inputs) m q
    → NamesPut m q (names_of (between_parts (bytes "T") (bytes ".Q")) (input_on w.timers) most_timers) n r → SetPut l at w n r
unfolding thing_names
set_put {w = w} a b =
    let e = names_spelt (between_parts (bytes "%IX") []) (λ n. operand_text (Ix n)) (input_on w.inputs) most_inputs input_named in
    let f = names_spelt (between_parts (bytes "T") (bytes ".Q")) (λ t. operand_text (TimerQ t)) (input_on w.timers) most_timers timer_named in
    record { names = rw (← e, ← f) (names_names a b) }

pub things_some : {l m : List ℕ} {at : ℕ} {w : ThingWords} {r : NameCursor} → SetPut l at w m r → r.some ≡ true → (s : N.Things) → InWords w s → BytesPut l at (things_text s) m r.at
unfolding things_text
things_some {w = w} a e s h = rw (← things_same w s h, ← spaced_some (thing_names (set_of w)) (sym a.names.some ∙ e)) a.names.put

pub things_none : {l m n : List ℕ} {at k : ℕ} {w : ThingWords} {r : NameCursor} → SetPut l at w m r → r.some ≡ false → BytesPut m r.at (45 ∷ []) n k
    → (s : N.Things) → InWords w s → BytesPut l at (things_text s) n k
unfolding things_text
things_none {w = w} a e b s h = rw (← things_same w s h, ← spaced_none (thing_names (set_of w)) (sym a.names.some ∙ e)) (put_put a.names.put b)
