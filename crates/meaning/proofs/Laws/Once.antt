-- How contracts of the usual shapes come to "no second answer".
use Rattle.std.specs.Prelude.{◌≡◌, refl, List, [], ℕ, ℤ}
use Rattle.std.proofs.Common.{sym, ◌∙◌}
use Rattle.meaning.specs.Tables.{Tables}
use Rattle.meaning.specs.Refusals.{number_of, place_of}
use Rattle.meaning.specs.declared.Refusal.{Refusal}
use Rattle.meaning.specs.Once.{Once}

pub two : {A B : Type 0} {x y : A × B} → (x.0 ≡ y.0) × (x.1 ≡ y.1) → x ≡ y
two e = λ i. (e.0 i, e.1 i)

pub three : {A B C : Type 0} {x y : A × B × C} → (x.0 ≡ y.0) × (x.1 ≡ y.1) × (x.2 ≡ y.2) → x ≡ y
three e = λ i. (e.0 i, e.1 i, e.2 i)

pub four : {A B C D : Type 0} {x y : A × B × C × D} → (x.0 ≡ y.0) × (x.1 ≡ y.1) × (x.2 ≡ y.2) × (x.3 ≡ y.3) → x ≡ y
four e = λ i. (e.0 i, e.1 i, e.2 i, e.3 i)

pub five : {A B C D E : Type 0} {x y : A × B × C × D × E} → (x.0 ≡ y.0) × (x.1 ≡ y.1) × (x.2 ≡ y.2) × (x.3 ≡ y.3) × (x.4 ≡ y.4) → x ≡ y
five e = λ i. (e.0 i, e.1 i, e.2 i, e.3 i, e.4 i)

-- an equation
pub is_once : {A : Type 0} (v : A) → Once (λ r. r ≡ v)
is_once v x y p q = p ∙ sym q

-- an equation for the result, and one for the lent slice
pub both_once : {A B : Type 0} (v : A) (l : B) → Once {A = A × B} (λ (r, m). (r ≡ v) × (m ≡ l))
both_once v l x y p q = two (p.0 ∙ sym q.0, p.1 ∙ sym q.1)

-- tables with these states, moves and presets: whatever holds for all such tables holds for these
abbrev pub tables_with : List ℕ → List ℤ → List ℕ → Tables
tables_with ss ms ps = record { scan_step = 0; inputs = 0; outputs = 0; states = ss; moves = ms; presets = ps; timer_pairs = []; output_pairs = [] }

pub on_states : {A : Type 0} (P : Tables → A → Type 0) → ((c : Tables) → Once (P c)) → (ss : List ℕ) → Once (λ r. (c : Tables) → c.states ≡ ss → P c r)
on_states P f ss x y p q = let c = tables_with ss [] [] in f c x y (p c refl) (q c refl)

pub on_moves : {A : Type 0} (P : Tables → A → Type 0) → ((c : Tables) → Once (P c)) → (ms : List ℤ) → Once (λ r. (c : Tables) → c.moves ≡ ms → P c r)
on_moves P f ms x y p q = let c = tables_with [] ms [] in f c x y (p c refl) (q c refl)

-- an equation for all tables with these states, or with these moves
pub states_once : {A : Type 0} (f : Tables → A) (ss : List ℕ) → Once (λ r. (c : Tables) → c.states ≡ ss → r ≡ f c)
states_once f = on_states (λ c r. r ≡ f c) (λ c. is_once (f c))

pub moves_once : {A : Type 0} (f : Tables → A) (ms : List ℤ) → Once (λ r. (c : Tables) → c.moves ≡ ms → r ≡ f c)
moves_once f = on_moves (λ c r. r ≡ f c) (λ c. is_once (f c))

pub number_once : (r : Refusal) → Once (λ n. n ≡ number_of r)
number_once r = is_once (number_of r)

pub place_once : (r : Refusal) → Once (λ n. n ≡ place_of r)
place_once r = is_once (place_of r)
