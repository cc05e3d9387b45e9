-- Part 4 of a chart's program: the output word is the machine's.
use Rattle.std.specs.Prelude.{◌≡◌, Bool, cond, length, get_or, replicate}
use Rattle.std.proofs.Math.Path.{refl, ap}
use Rattle.std.proofs.Common.{ap₂, ◌∙◌, zero-add, length-set, get_or-set_same}
use Prim.Native.Nat.{ℕ, zero, suc, ◌+◌, ◌*◌, ◌-◌, ◌≤◌, ◌<◌}
use Rattle.std.proofs.Math.Nat.{add-zero}
use native.Mathlib.Omega.{arith}
use Rattle.std.proofs.Math.Decide.{ℕ_discrete, dec_le}
use Rattle.std.proofs.Math.Bool.{false}
use mathlib.Core.List.{List, [], ◌∷◌, flat_map}
use Rattle.std.proofs.Math.ListN.{set, get_or-eq_default}
use Rattle.std.proofs.lemmas.List.{length-replicate, get_or-replicate}
use Rattle.std.proofs.Math.Seq.{get_or-set_other}
use Rattle.meaning.specs.Rows.{table}
use Rattle.meaning.specs.Tables.{Tables, most_outputs}
use Rattle.meaning.specs.Hierarchy.{output_on}
use Rattle.meaning.specs.Rules.{Rules}
use Rattle.meaning.specs.Machine.{follow, word_of, seen_at_leaf}
use Rattle.meaning.proofs.Laws.Follow.{Leads}
use Rattle.meaning.specs.Scan.{MidScan, stored_in, with_outputs, with_result}
use Rattle.meaning.specs.Written.{pairs_body, output, output_rungs}
use Rattle.meaning.proofs.Laws.Effects.{body_passes, store_done, stores_done, rungs_done}
use Rattle.meaning.proofs.Laws.Tests.{Coded, pairs_pass}
use Rattle.meaning.proofs.Laws.Moves.{rungs_append, with_controller, with_outputs_lem}
use Rattle.meaning.specs.declared.Operator.TheVariants.{St}

-- ---- words

word_off : (bs : List Bool) → ((i : ℕ) → get_or bs i false ≡ false) → word_of bs ≡ 0
unfolding word_of
word_off [] h = refl
word_off (b ∷ bs) h = rw (h 0, word_off bs (λ i. h (suc i)))

-- bits that are off above n add nothing to the word of n bits
pub word_table : (f : ℕ → Bool) (i n : ℕ) (bs : List Bool) → n ≤ length bs → ((k : ℕ) → k < n → get_or bs k false ≡ f (i + k)) → ((k : ℕ) → n ≤ k → get_or bs k false ≡ false) → word_of bs ≡ word_of (table f i n)
unfolding word_of table
word_table f i zero bs l on off = word_off bs (λ k. off k (omega arith))
word_table f i (suc n) [] l on off = absurd (omega arith)
word_table f i (suc n) (b ∷ bs) l on off = ap₂ (λ v r. cond v 1 0 + 2 * r) (rw add-zero at (on 0 (omega arith)))
    (word_table f (suc i) n bs (omega arith) (λ k h. on (suc k) (omega arith) ∙ ap f (omega arith)) (λ k h. off (suc k) (omega arith)))

-- ---- the rungs

-- the outputs below %QX(j + 1) show the leaf l, and the others are off
pub record Lit (c : Tables) (l j : ℕ) (w w' : MidScan) : Type 0 where
  pub controller : w'.controller ≡ w.controller
  pub size : length w'.outputs ≡ most_outputs
  pub on : (i : ℕ) → i < j → get_or w'.outputs i false ≡ output_on c (1 + i) l
  pub off : (i : ℕ) → j ≤ i → get_or w'.outputs i false ≡ false

module _ (c : Tables) (R : Rules c) (m : ℕ → ℕ) (W : Leads c m) (x : ℕ) (w : MidScan) (C : Coded c w.controller.flip_flops 0 m) where
  lit_one : (j : ℕ) (w' : MidScan) → j < most_outputs → Lit c (follow c m 0) j w w' → Lit c (follow c m 0) (suc j) w (rungs_done x (output_rungs c (1 + j)) w')
  unfolding output_rungs output_on
  lit_one j w' h L =
      let os = w'.outputs in
      let v = output_on c (1 + j) (follow c m 0) in
      let body = pairs_body c c.output_pairs (1 + j) in
      let b : body_passes x w'.controller body ≡ v = pairs_pass c R m W x w'.controller (rw L.controller C) c.outputs c.output_pairs R.output_pairs (1 + j) in
      let k : (rungs_done x (output_rungs c (1 + j)) w').controller ≡ w'.controller = with_controller x body (St (output c (1 + j)) ∷ []) w' v b ∙ same (1 + j) v w' in
      let o : (rungs_done x (output_rungs c (1 + j)) w').outputs ≡ set os j v = with_outputs_lem x body (St (output c (1 + j)) ∷ []) w' v b ∙ lights (1 + j) v w' ∙ ap (λ n. set os n v) (omega arith) in
      record {
        controller = k ∙ L.controller;
        size = rw o (length-set os j v ∙ L.size);
        on = rw o (λ i l. elim (ℕ_discrete i j) [ yes y ↦ rw y (get_or-set_same os j v false (omega (arith, L.size))) | no y ↦ get_or-set_other os j i v false y ∙ L.on i (omega arith) ]);
        off = rw o (λ i l. get_or-set_other os j i v false (omega arith) ∙ L.off i (omega arith));
      }
    where
      same : (n : ℕ) (v : Bool) (u : MidScan) → (stores_done v (St (output c n) ∷ []) (with_result v u)).controller ≡ u.controller
      same n v u = unfold stores_done store_done stored_in with_outputs with_result in refl

      lights : (n : ℕ) (v : Bool) (u : MidScan) → (stores_done v (St (output c n) ∷ []) (with_result v u)).outputs ≡ set u.outputs (n - 1) v
      lights n v u = unfold stores_done store_done stored_in with_outputs with_result in refl

  lit_more : (n j : ℕ) (w' : MidScan) → j + n ≤ most_outputs → Lit c (follow c m 0) j w w' → Lit c (follow c m 0) (j + n) w (rungs_done x (flat_map (output_rungs c) (table (λ o. o) (1 + j) n)) w')
  unfolding flat_map table rungs_done
  lit_more zero j w' h L = rw add-zero L
  lit_more (suc n) j w' h L =
      let e : j + suc n ≡ suc j + n = omega arith in
      let f : suc (1 + j) ≡ 1 + suc j = omega arith in
      rw (rungs_append x (output_rungs c (1 + j)) (flat_map (output_rungs c) (table (λ o. o) (suc (1 + j)) n)) w', e, f)
      (lit_more n (suc j) (rungs_done x (output_rungs c (1 + j)) w') (omega arith) (lit_one j w' (omega arith) L))

  -- after part 4 the outputs show the leaf that the flip-flops lead to
  pub outputs_done : w.outputs ≡ replicate most_outputs false → Lit c (follow c m 0) c.outputs w (rungs_done x (flat_map (output_rungs c) (table (λ o. o) 1 c.outputs)) w)
  outputs_done e = rw (zero-add c.outputs) at (rw (add-zero 1) at (lit_more c.outputs 0 w (omega (arith, R.size.few_outputs))
      (record {
        controller = refl;
        size = rw e (length-replicate most_outputs false);
        on = λ i h. absurd (omega arith);
        off = rw e (λ i h. elim (dec_le (suc i) most_outputs) [ yes z ↦ get_or-replicate most_outputs i false false z | no z ↦ get_or-eq_default (replicate most_outputs false) false {n = i} (omega (arith, length-replicate most_outputs false)) ]);
      })))

-- so the output word is the machine's
pub lit_word : (c : Tables) → Rules c → (l : ℕ) (w w' : MidScan) → Lit c l c.outputs w w' → word_of w'.outputs ≡ (seen_at_leaf c l).outputs
unfolding seen_at_leaf
lit_word c R l w w' L = word_table (λ o. output_on c o l) 1 c.outputs w'.outputs (omega (arith, L.size, R.size.few_outputs)) L.on L.off
