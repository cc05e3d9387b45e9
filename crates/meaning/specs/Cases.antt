-- The small charts that document 01 works by hand, (a) to (h), as one table about the definitions.
-- proofs/Laws/Cases.antt proves it.
use Rattle.std.specs.Prelude.{◌≡◌, ℕ, List, [], ◌∷◌, map, ℤ, pos, negsuc, Ok, Err}
use Rattle.meaning.specs.Tables.{Tables, preset_steps}
use Rattle.meaning.specs.Layout.{width, code}
use Rattle.meaning.specs.Check.{verdict}
use Rattle.meaning.specs.Machine.{Seen, start_state, trace}
use Rattle.meaning.specs.History.{history_reading}
use Rattle.meaning.specs.declared.Refusal.TheVariants as R

-- a row of the moves table with a and b in its first two literal places (0: unused), then the rows rest
unfoldable pub move : ℕ → ℕ → ℕ → ℤ → ℤ → List ℤ → List ℤ
move s t k a b rest = pos s ∷ pos t ∷ pos k ∷ a ∷ b ∷ pos 0 ∷ pos 0 ∷ pos 0 ∷ pos 0 ∷ pos 0 ∷ pos 0 ∷ rest

unfoldable pub lamp : Tables
lamp = record {
  scan_step = 100;
  inputs = 2;
  outputs = 1;
  states = 0 ∷ 1 ∷ 0 ∷ 0 ∷ 0 ∷ 0 ∷ [];
  moves = move 1 2 0 (pos 1) (pos 0) (move 2 1 0 (pos 2) (pos 101) []);
  presets = 250 ∷ [];
  timer_pairs = 1 ∷ 2 ∷ [];
  output_pairs = 1 ∷ 2 ∷ [];
}

-- "states (0,1) (0,3) (0,0) (1,0) (1,0)"
unfoldable pub nested : List ℤ → Tables
nested ms = record {
  scan_step = 100;
  inputs = 2;
  outputs = 0;
  states = 0 ∷ 1 ∷ 0 ∷ 3 ∷ 0 ∷ 0 ∷ 1 ∷ 0 ∷ 1 ∷ 0 ∷ [];
  moves = ms;
  presets = [];
  timer_pairs = [];
  output_pairs = [];
}

-- "moves 3 to 4 on [1,-2], 1 to 2 on [2], 2 to 1 by history on [-2]"
unfoldable pub returning : Tables
returning = nested (move 3 4 0 (pos 1) (negsuc 1) (move 1 2 0 (pos 2) (pos 0) (move 2 1 1 (negsuc 1) (pos 0) [])))

-- "with 1 to 2 on [2] and 3 to 4 on [1]"
unfoldable pub overlapping : Tables
overlapping = nested (move 1 2 0 (pos 2) (pos 0) (move 3 4 0 (pos 1) (pos 0) []))

-- "sub-states 1, 2, 3, initial 2", and "presets 200, 250, 300, 301"
unfoldable pub three : Tables
three = record {
  scan_step = 100;
  inputs = 0;
  outputs = 0;
  states = 0 ∷ 2 ∷ 0 ∷ 0 ∷ 0 ∷ 0 ∷ 0 ∷ 0 ∷ [];
  moves = [];
  presets = 200 ∷ 250 ∷ 300 ∷ 301 ∷ [];
  timer_pairs = [];
  output_pairs = [];
}

unfoldable pub seen_as : ℕ → ℕ → Seen
seen_as l o = record { leaf = l; outputs = o }

unfoldable pub leaves_of : List Seen → List ℕ
leaves_of = map (λ s. s.leaf)

pub record Cases : Type 0 where
  pub a_accepted : verdict lamp ≡ (Ok tt)
  pub a : trace lamp (start_state lamp) (1 ∷ 2 ∷ 2 ∷ 2 ∷ 2 ∷ [])
      ≡ seen_as 2 1 ∷ seen_as 2 1 ∷ seen_as 2 1 ∷ seen_as 2 1 ∷ seen_as 1 0 ∷ []
  pub a_read : history_reading lamp (1 ∷ 2 ∷ 2 ∷ 2 ∷ 2 ∷ [])
      ≡ seen_as 2 1 ∷ seen_as 2 1 ∷ seen_as 2 1 ∷ seen_as 2 1 ∷ seen_as 1 0 ∷ []
  pub b : map width (1 ∷ 2 ∷ 3 ∷ 4 ∷ 5 ∷ 8 ∷ 9 ∷ []) ≡ 0 ∷ 1 ∷ 2 ∷ 2 ∷ 3 ∷ 3 ∷ 4 ∷ []
  pub c : map (code three) (1 ∷ 2 ∷ 3 ∷ []) ≡ 1 ∷ 0 ∷ 2 ∷ []
  pub d : map (preset_steps three) (1 ∷ 2 ∷ 3 ∷ 4 ∷ []) ≡ 2 ∷ 3 ∷ 3 ∷ 4 ∷ []
  pub e_accepted : verdict returning ≡ (Ok tt)
  pub e : leaves_of (trace returning (start_state returning) (1 ∷ 2 ∷ 0 ∷ [])) ≡ 4 ∷ 2 ∷ 4 ∷ []
  pub e_read : leaves_of (history_reading returning (1 ∷ 2 ∷ 0 ∷ [])) ≡ 4 ∷ 2 ∷ 4 ∷ []
  pub f : leaves_of (trace returning (start_state returning) (2 ∷ 0 ∷ [])) ≡ 2 ∷ 3 ∷ []
  pub f_read : leaves_of (history_reading returning (2 ∷ 0 ∷ [])) ≡ 2 ∷ 3 ∷ []
  pub g : verdict overlapping ≡ Err (R.Overlap 1)
  pub h : verdict (nested (move 1 2 0 (negsuc 32767) (pos 0) [])) ≡ Err (R.Literal 0)
