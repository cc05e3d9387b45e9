-- Parts 2 and 3 of a chart's program: the moves write the working copies, then these are copied.
use Rattle.std.specs.Prelude.{◌≡◌, ◌≢◌, Bool, true, false, ◌||◌, length, set, eqb}
use Rattle.std.proofs.Math.Path.{refl}
use Rattle.std.proofs.Common.{sym, ap, ◌∙◌, zero-add, length-set, get_or-set_other}
use Rattle.std.proofs.Math.Logic.{inl, inr}
use Prim.Native.Nat.{ℕ, zero, suc, ◌+◌, ◌≤◌, ◌<◌}
use Rattle.std.proofs.Math.Nat.{add-zero}
use native.Mathlib.Omega.{arith}
use Rattle.std.proofs.Math.Decide.{ℕ_discrete}
use Rattle.std.proofs.Math.Bool.{cond, or-false, or-true, or_assoc}
use Rattle.std.specs.Bool.{beq}
use mathlib.Core.List.{List, [], ◌∷◌, ◌++◌, flat_map}
use Rattle.std.proofs.Math.Seq.{get_or-set_same}
use Rattle.std.proofs.Math.Dec.{ltb}
use borrow.Author.Tests.{eq-eqb, lt-ltb, le-ltb, ltb-true}
use Rattle.meaning.specs.Rows.{table}
use Rattle.meaning.proofs.Laws.Rows.{which, bit_small, and_l, and_r, some_intro, every_intro}
use Rattle.meaning.specs.Tables.{Tables, move_count, source, target, mark}
use Rattle.meaning.specs.Hierarchy.{is_leaf}
use Rattle.meaning.specs.Layout.{group_width, group_first, flip_flop_count, code}
use Rattle.meaning.proofs.Laws.Layout.{group_fits}
use Rattle.meaning.specs.Rules.{Rules}
use Rattle.meaning.specs.Machine.{State, remembered, active_leaf, enabled, chosen, leads_below, memory_after_move, setting, memory_after_step, Valid}
use Rattle.meaning.proofs.Laws.Follow.{Leads, super_known, below_leads, entered_leads}
use Rattle.meaning.proofs.Laws.Machine.{target_known}
use Rattle.meaning.proofs.Laws.Overlap.{enabled_chosen, none_chosen}
use Rattle.meaning.specs.Programs.{Body, Rung, all}
use Rattle.meaning.specs.Scan.{Controller, MidScan, flip_flop_on, value_of, stored_in, with_flip_flops, with_result}
use Rattle.meaning.specs.Written.{state_tests, literal_tests, and_body, or_body, chain, move_stores, rung_with, move_rungs, copy_rungs}
use Rattle.meaning.proofs.Laws.Effects.{test_passes, parts_after, body_passes, store_done, stores_done, rung_done, rungs_done}
use Rattle.meaning.proofs.Laws.Tests.{Coded, any, any_no, any_table, all_table, Tells, valid_leads, move_passes_lem}
use Rattle.meaning.proofs.Laws.Stores.{AllBits, set_bits, same_code, Shows, Writes, moved_at, move_writes}
use Rattle.meaning.specs.declared.Block.{Block}
use Rattle.meaning.specs.declared.Operator.{Operator}

-- ---- the memory after a step

module _ (c : Tables) (R : Rules c) (x : ℕ) (s : State) where
  -- the enabled move gives the memory after the step
  pub after_enabled : (i : ℕ) → i < move_count c → enabled c (setting c x s) (active_leaf c s.memory) i ≡ true → memory_after_step c x s ≡ memory_after_move c i s.memory
  unfolding memory_after_step
  after_enabled i h e = rw (enabled_chosen c R (setting c x s) (active_leaf c s.memory) i h e, lt-ltb i (move_count c) h)

  -- "with none, the state stays"
  pub after_none : ((i : ℕ) → i < move_count c → enabled c (setting c x s) (active_leaf c s.memory) i ≡ false) → memory_after_step c x s ≡ s.memory
  unfolding memory_after_step
  after_none h = rw (none_chosen c (setting c x s) (active_leaf c s.memory) h, le-ltb (move_count c) (move_count c) (omega arith))

  -- the memory after a step leads to sub-states
  pub after_leads : Valid c s → Leads c (remembered (memory_after_step c x s))
  unfolding memory_after_step
  after_leads v a n = let i = chosen c (setting c x s) (active_leaf c s.memory) in
      elim (which (ltb i (move_count c))) [
        | inl e ↦ rw (memory_after_step, e, moved_at c i s.memory a (super_known c R a n))
            (entered_leads c R (leads_below c (mark c i) (remembered s.memory)) (remembered s.memory) (below_leads c R (mark c i) (remembered s.memory) (valid_leads c R s v)) (valid_leads c R s v)
            (target c i) (target_known c R i (ltb-true i (move_count c) e)) a n)
        | inr e ↦ rw (memory_after_step, e) (valid_leads c R s v a n)
      ]

-- ---- rungs

-- rungs are done one after the other
pub rungs_append : (x : ℕ) (p q : List Rung) (w : MidScan) → rungs_done x (p ++ q) w ≡ rungs_done x q (rungs_done x p w)
unfolding rungs_done
rungs_append x [] q w = refl
rungs_append x (r ∷ p) q w = rungs_append x p q (rung_done x r w)

-- a rung with these stores, or no rung where there are none, does them to the controller
pub with_controller : (x : ℕ) (b : Body) (ss : List Operator) (w : MidScan) (v : Bool) → body_passes x w.controller b ≡ v
    → (rungs_done x (rung_with b ss) w).controller ≡ (stores_done v ss (with_result v w)).controller
unfolding rungs_done rung_with rung_done stores_done with_result
with_controller x b [] w v e = refl
with_controller x b (s ∷ ss) w v e = ap (λ u. (stores_done u (s ∷ ss) (with_result u w)).controller) e

-- and to the outputs
pub with_outputs_lem : (x : ℕ) (b : Body) (ss : List Operator) (w : MidScan) (v : Bool) → body_passes x w.controller b ≡ v
    → (rungs_done x (rung_with b ss) w).outputs ≡ (stores_done v ss (with_result v w)).outputs
unfolding rungs_done rung_with rung_done stores_done with_result
with_outputs_lem x b [] w v e = refl
with_outputs_lem x b (s ∷ ss) w v e = ap (λ u. (stores_done u (s ∷ ss) (with_result u w)).outputs) e

-- ---- part 2

-- within part 2: the flip-flops code the memory before the step, the working copies that one or, once the enabled move's rung has run, the memory after the step
pub record Amid (c : Tables) (x : ℕ) (s : State) (bs : List Block) (os : List Bool) (done : Bool) (w : MidScan) : Type 0 where
  pub flips : Coded c w.controller.flip_flops 0 (remembered s.memory)
  pub copies : Coded c w.controller.flip_flops (flip_flop_count c) (remembered (cond done (memory_after_step c x s) s.memory))
  pub bits : AllBits w.controller.flip_flops
  pub size : length w.controller.flip_flops ≡ flip_flop_count c + flip_flop_count c
  pub blocks : w.controller.blocks ≡ bs
  pub outputs : w.outputs ≡ os

module _ (c : Tables) (R : Rules c) (x : ℕ) (s : State) (ok : Valid c s) (bs : List Block) (os : List Bool) (T : Tells c bs s) where
  -- a move's rung keeps this
  pub move_done : (done : Bool) (w : MidScan) → Amid c x s bs os done w → (i : ℕ) → i < move_count c
      → Amid c x s bs os (done || enabled c (setting c x s) (active_leaf c s.memory) i) (rungs_done x (move_rungs c i) w)
  unfolding move_rungs move_stores with_result
  move_done done w A i h = go (enabled c (setting c x s) (active_leaf c s.memory) i) refl
    where
      m : ℕ → ℕ
      m = remembered s.memory

      new : ℕ → ℕ
      new = remembered (memory_after_move c i s.memory)

      body : Body
      body = and_body (state_tests c (source c i) ++ literal_tests c i)

      W : Writes c new (move_stores c i) (λ a. new a ≢ m a)
      W = move_writes c R s.memory (valid_leads c R s ok) i h

      passes : (v : Bool) → enabled c (setting c x s) (active_leaf c s.memory) i ≡ v → body_passes x w.controller body ≡ v
      passes v e = move_passes_lem c R s ok x w.controller A.flips (rw A.blocks T) i h ∙ e

      after : MidScan
      after = stores_done true (move_stores c i) (with_result true w)

      long : flip_flop_count c + flip_flop_count c ≤ length w.controller.flip_flops
      long = omega (arith, A.size)

      shown : (d : Bool) (a : ℕ) → is_leaf c a ≡ false → memory_after_step c x s ≡ memory_after_move c i s.memory
          → Shows c (remembered (cond d (memory_after_step c x s) s.memory)) a w → Shows c new a after
      shown true a n z C = W.keeps (with_result true w) a long n (C ∙ ap (λ l. code c (remembered l a)) z)
      shown false a n z C = elim (ℕ_discrete (new a) (m a)) [
        | yes y ↦ W.keeps (with_result true w) a long n (C ∙ ap (code c) (sym y))
        | no y ↦ W.writes (with_result true w) a long n y
      ]

      go : (v : Bool) → enabled c (setting c x s) (active_leaf c s.memory) i ≡ v → Amid c x s bs os (done || v) (rungs_done x (move_rungs c i) w)
      go false e =
          let k : (rungs_done x (move_rungs c i) w).controller ≡ w.controller = with_controller x body (move_stores c i) w false (passes false e) ∙ ap (λ u. u.controller) (W.idle (with_result false w)) in
          let o : (rungs_done x (move_rungs c i) w).outputs ≡ w.outputs = with_outputs_lem x body (move_stores c i) w false (passes false e) ∙ ap (λ u. u.outputs) (W.idle (with_result false w)) in
          rw (or-false done) (record { flips = rw k A.flips; copies = rw k A.copies; bits = rw k A.bits; size = rw k A.size; blocks = rw k A.blocks; outputs = o ∙ A.outputs })
      go true e =
          let k : (rungs_done x (move_rungs c i) w).controller ≡ after.controller = with_controller x body (move_stores c i) w true (passes true e) in
          let o : (rungs_done x (move_rungs c i) w).outputs ≡ after.outputs = with_outputs_lem x body (move_stores c i) w true (passes true e) in
          let z = after_enabled c R x s i h e in
          rw (or-true done) (record {
            flips = rw k (λ a n. same_code after.controller.flip_flops w.controller.flip_flops (0 + group_first c a) (0 + group_first c a) (group_width c a)
                (λ j l. W.lower (with_result true w) (0 + group_first c a + j) (omega (arith, group_fits c a (super_known c R a n)))) ∙ A.flips a n);
            copies = rw k (λ a n. shown done a n z (A.copies a n) ∙ ap (λ l. code c (remembered l a)) (sym z));
            bits = rw k (W.bits (with_result true w) A.bits);
            size = rw k (W.size (with_result true w) ∙ A.size);
            blocks = rw k (W.blocks (with_result true w) ∙ A.blocks);
            outputs = o ∙ W.outputs (with_result true w) ∙ A.outputs;
          })

  -- and so do the rungs of any moves: they have written the memory after the step where one of them is enabled
  pub moves_done : (is : List ℕ) → all (λ i. ltb i (move_count c)) is ≡ true → (done : Bool) (w : MidScan) → Amid c x s bs os done w
      → Amid c x s bs os (done || any (enabled c (setting c x s) (active_leaf c s.memory)) is) (rungs_done x (flat_map (move_rungs c) is) w)
  unfolding all any flat_map rungs_done
  moves_done [] h done w A = rw (or-false done) A
  moves_done (i ∷ is) h done w A =
      let E = enabled c (setting c x s) (active_leaf c s.memory) in
      rw (rungs_append x (move_rungs c i) (flat_map (move_rungs c) is) w, ← or_assoc done (E i) (any E is))
      (moves_done is (and_r (ltb i (move_count c)) _ h) (done || E i) (rungs_done x (move_rungs c i) w)
      (move_done done w A i (ltb-true i (move_count c) (and_l _ (all (λ j. ltb j (move_count c)) is) h))))

  -- so the rungs of all moves, in any order, leave the memory after the step in the working copies
  pub all_moves_done : (is : List ℕ) → all (λ i. ltb i (move_count c)) is ≡ true → ((i : ℕ) → i < move_count c → any (eqb i) is ≡ true)
      → (w : MidScan) → Amid c x s bs os false w → Amid c x s bs os true (rungs_done x (flat_map (move_rungs c) is) w)
  all_moves_done is h every w A =
      let E = enabled c (setting c x s) (active_leaf c s.memory) in
      let B = moves_done is h false w A in
      elim (which (any E is)) [
        | inl e ↦ rw e at B
        | inr e ↦ (let C : Amid c x s bs os false (rungs_done x (flat_map (move_rungs c) is) w) = rw e at B in record {
          flips = C.flips;
          copies = rw (after_none c R x s (λ i l. any_no E i is e (every i l))) C.copies;
          bits = C.bits;
          size = C.size;
          blocks = C.blocks;
          outputs = C.outputs;
        })
      ]

-- in the list of all moves by rising number each is known
pub moves_known : (n : ℕ) → all (λ i. ltb i n) (table (λ i. i) 0 n) ≡ true
moves_known n = all_table (λ i. ltb i n) 0 n ∙ every_intro (λ i. ltb i n) n (λ i h. lt-ltb i n h)

-- and none is missing
pub moves_there : (n i : ℕ) → i < n → any (eqb i) (table (λ j. j) 0 n) ≡ true
moves_there n i h = any_table (eqb i) 0 n ∙ some_intro (eqb i) 0 n i (omega arith) (omega arith) (eq-eqb i i refl)

-- ---- part 3

-- of the controller of w, the first j working copies stand in the flip-flops of w'
pub record Copied (c : Tables) (w : MidScan) (j : ℕ) (w' : MidScan) : Type 0 where
  pub low : (i : ℕ) → i < j → flip_flop_on w'.controller.flip_flops i ≡ flip_flop_on w.controller.flip_flops (flip_flop_count c + i)
  pub high : (i : ℕ) → flip_flop_count c ≤ i → flip_flop_on w'.controller.flip_flops i ≡ flip_flop_on w.controller.flip_flops i
  pub bits : AllBits w'.controller.flip_flops
  pub size : length w'.controller.flip_flops ≡ length w.controller.flip_flops
  pub blocks : w'.controller.blocks ≡ w.controller.blocks
  pub outputs : w'.outputs ≡ w.outputs

beq_true : (b : Bool) → beq true b ≡ b
beq_true true = refl
beq_true false = refl

bit_on_lem : (b : Bool) → eqb (cond b 1 0) 1 ≡ b
bit_on_lem true = refl
bit_on_lem false = refl

-- "LD working copy, ST flip-flop"
copy_done : (c : Tables) (x b : ℕ) (w : MidScan) → let fs = w.controller.flip_flops in
    (rungs_done x (copy_rungs c b) w).controller ≡ record { flip_flops = set fs b (cond (flip_flop_on fs (flip_flop_count c + b)) 1 0); blocks = w.controller.blocks }
unfolding rungs_done copy_rungs rung_with rung_done body_passes and_body or_body chain parts_after test_passes value_of stores_done store_done stored_in with_flip_flops with_result
copy_done c x b w = let fs = w.controller.flip_flops in
    ap {B = Controller} (λ v. record { flip_flops = set fs b (cond v 1 0); blocks = w.controller.blocks }) (beq_true (flip_flop_on fs (flip_flop_count c + b)))

copy_outputs : (c : Tables) (x b : ℕ) (w : MidScan) → (rungs_done x (copy_rungs c b) w).outputs ≡ w.outputs
unfolding rungs_done copy_rungs rung_with rung_done stores_done store_done stored_in with_flip_flops with_result
copy_outputs c x b w = refl

module _ (c : Tables) (x : ℕ) (w : MidScan) (long : flip_flop_count c + flip_flop_count c ≤ length w.controller.flip_flops) where
  copied_one : (j : ℕ) (w' : MidScan) → j < flip_flop_count c → Copied c w j w' → Copied c w (suc j) (rungs_done x (copy_rungs c j) w')
  unfolding flip_flop_on
  copied_one j w' h C =
      let fs = w'.controller.flip_flops in
      let v : ℕ = cond (flip_flop_on fs (flip_flop_count c + j)) 1 0 in
      let e = copy_done c x j w' in record {
        low = rw e (λ i l. elim (ℕ_discrete i j) [
          | yes y ↦ rw (y, get_or-set_same fs j v 0 (omega (arith, C.size))) (bit_on_lem (flip_flop_on fs (flip_flop_count c + j)) ∙ C.high (flip_flop_count c + j) (omega arith))
          | no y ↦ rw (get_or-set_other fs j i v 0 y) (C.low i (omega arith))
        ]);
        high = rw e (λ i l. rw (get_or-set_other fs j i v 0 (omega arith)) (C.high i l));
        bits = rw e (set_bits fs j v (bit_small (flip_flop_on fs (flip_flop_count c + j))) C.bits);
        size = rw e (length-set fs j v ∙ C.size);
        blocks = rw e C.blocks;
        outputs = copy_outputs c x j w' ∙ C.outputs;
      }

  copied_more : (n j : ℕ) (w' : MidScan) → j + n ≤ flip_flop_count c → Copied c w j w' → Copied c w (j + n) (rungs_done x (flat_map (copy_rungs c) (table (λ b. b) j n)) w')
  unfolding flat_map table rungs_done
  copied_more zero j w' h C = rw add-zero C
  copied_more (suc n) j w' h C =
      let e : j + suc n ≡ suc j + n = omega arith in
      rw (rungs_append x (copy_rungs c j) (flat_map (copy_rungs c) (table (λ b. b) (suc j) n)) w', e) (copied_more n (suc j) (rungs_done x (copy_rungs c j) w') (omega arith) (copied_one j w' (omega arith) C))

  -- after part 3 every working copy stands in its flip-flop too
  pub copies_done : AllBits w.controller.flip_flops → Copied c w (flip_flop_count c) (rungs_done x (flat_map (copy_rungs c) (table (λ b. b) 0 (flip_flop_count c))) w)
  copies_done B = rw zero-add at (copied_more (flip_flop_count c) 0 w (omega arith)
      (record { low = λ i h. absurd (omega arith); high = λ i h. refl; bits = B; size = refl; blocks = refl; outputs = refl }))

-- what the working copies code, flip-flops and working copies code after part 3
pub copied_codes : (c : Tables) → Rules c → (w w' : MidScan) → Copied c w (flip_flop_count c) w' → (m : ℕ → ℕ) → Coded c w.controller.flip_flops (flip_flop_count c) m
    → Coded c w'.controller.flip_flops 0 m × Coded c w'.controller.flip_flops (flip_flop_count c) m
copied_codes c R w w' P m C = (
  (λ a n. same_code w'.controller.flip_flops w.controller.flip_flops (0 + group_first c a) (flip_flop_count c + group_first c a) (group_width c a)
      (λ i h. P.low (0 + group_first c a + i) (omega (arith, group_fits c a (super_known c R a n))) ∙ ap (flip_flop_on w.controller.flip_flops) (omega arith)) ∙ C a n),
  (λ a n. same_code w'.controller.flip_flops w.controller.flip_flops (flip_flop_count c + group_first c a) (flip_flop_count c + group_first c a) (group_width c a)
      (λ i h. P.high (flip_flop_count c + group_first c a + i) (omega arith)) ∙ C a n),
)
