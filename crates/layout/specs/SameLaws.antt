-- A layout, and which sub-state has a code, rest on the states alone: two charts with the same states agree in them.
use Rattle.std.specs.Prelude.{◌≡◌, refl, ℕ, zero, suc, ◌+◌, Bool, ◌&&◌, not, cond, ltb, leb, eqb}
use Rattle.std.proofs.Common.{ap, ap₂, ◌∙◌}
use Rattle.meaning.specs.Rows.{count, least}
use Rattle.meaning.proofs.Laws.Rows.{count_same}
use Rattle.meaning.specs.Tables.{Tables, most_states, state_count, super_state, initial}
use Rattle.meaning.specs.Hierarchy.{sub_state}
use Rattle.meaning.specs.Layout.{width, group_width, group_first, other_sub_state, code}
use Rattle.meaning.specs.Lent.{coded}
use Rattle.tables.specs.Same.{state_count_same, super_state_same, initial_same, sub_state_same, sub_states_same}
use Rattle.layout.specs.declared.Layout.{Layout}
use Rattle.layout.specs.Laid.{laid_states, given_code, row, LaidOut}

module _ (c d : Tables) (e : c.states ≡ d.states) where
  pub laid_states_same : laid_states c ≡ laid_states d
  unfolding laid_states
  laid_states_same = ap (λ n. cond (leb n most_states) n 0) (state_count_same c d e)

  pub group_width_same : (a : ℕ) → group_width c a ≡ group_width d a
  unfolding group_width
  group_width_same a = ap width (sub_states_same c d e a)

  pub group_first_same : (a : ℕ) → group_first c a ≡ group_first d a
  unfolding group_first
  group_first_same zero = refl
  group_first_same (suc a) = ap₂ ◌+◌ (group_first_same a) (group_width_same a)

  other_sub_state_same : (a s : ℕ) → other_sub_state c a s ≡ other_sub_state d a s
  unfolding other_sub_state
  other_sub_state_same a s = ap₂ (λ x n. x && not (eqb s n)) (sub_state_same c d e a s) (initial_same c d e a)

  others_same : (a s : ℕ) → count (other_sub_state c a) s ≡ count (other_sub_state d a) s
  others_same a s = count_same (other_sub_state d a) (other_sub_state c a) s (λ i h. other_sub_state_same a i)

  pub code_same : (s : ℕ) → code c s ≡ code d s
  unfolding code
  code_same s =
      ap (λ a. cond (eqb s (initial c a)) 0 (suc (count (other_sub_state c a) s))) (super_state_same c d e s)
      ∙ ap₂ (λ n m. cond (eqb s n) 0 (suc m)) (initial_same c d e (super_state d s)) (others_same (super_state d s) s)

  pub given_code_same : (s : ℕ) → given_code c s ≡ given_code d s
  unfolding given_code
  given_code_same s = ap₂ (λ a k. cond (ltb 0 s && ltb a most_states) k 0) (super_state_same c d e s) (code_same s)

  pub codes_same : row (given_code c) (laid_states c) ≡ row (given_code d) (laid_states d)
  codes_same = λ j. row (λ s. given_code_same s j) (laid_states_same j)

  pub coded_same : (a k s : ℕ) → coded c a k s ≡ coded d a k s
  unfolding coded
  coded_same a k s = ap₂ (λ x n. x && eqb n k) (sub_state_same c d e a s) (code_same s)

  -- the sub-state of a with the code k
  pub sub_with_code_same : (a k : ℕ) → least (coded c a k) 0 (state_count c) ≡ least (coded d a k) 0 (state_count d)
  sub_with_code_same a k = λ j. least (λ s. coded_same a k s j) 0 (state_count_same c d e j)

  pub laid_out_same : (l : Layout) → LaidOut c l → LaidOut d l
  laid_out_same l o = record {
    first = o.first ∙ (λ j. row (λ a. group_first_same a j) (laid_states_same j));
    width = o.width ∙ (λ j. row (λ a. group_width_same a j) (laid_states_same j));
    code = o.code ∙ codes_same;
    total = o.total ∙ (λ j. group_first_same (laid_states_same j) j);
  }
