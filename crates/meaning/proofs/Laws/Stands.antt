-- All zero stands for the start, and the leaf that a controller shows is the leaf of the state that it stands for.
use Rattle.std.specs.Prelude.{◌≡◌, refl, ℕ, zero, suc, ◌+◌, ◌-◌, ◌≤◌, false, List, length, get_or, eqb}
use Rattle.std.proofs.Math.Path.{sym}
use Rattle.std.proofs.Common.{ap, ◌∙◌, arith, eqb-true, eq-eqb}
use Rattle.std.proofs.Math.Logic.{inl, inr}
use Rattle.std.proofs.Math.Nat.{zero-add, zero-min}
use Rattle.std.proofs.Math.Bool.{and-false}
use Rattle.meaning.specs.Rows.{table}
use Rattle.meaning.proofs.Laws.Rows.{which, and_l, and_r, and_both, get_d_table, least_at, get_d_equal}
use Rattle.meaning.specs.Tables.{Tables, state_count, timer_count, initial}
use Rattle.meaning.specs.Hierarchy.{sub_state, is_leaf, timer_runs}
use Rattle.meaning.proofs.Laws.Hierarchy.{sub_state_tells}
use Rattle.meaning.specs.Layout.{group_width, group_first, code}
use Rattle.meaning.proofs.Laws.Layout.{code_initial}
use Rattle.meaning.specs.Rules.{Rules}
use Rattle.meaning.specs.Machine.{State, remembered, active_leaf, follow, start_state, word_of, Valid}
use Rattle.meaning.proofs.Laws.Follow.{Leads, initial_leads, follow_same}
use Rattle.meaning.proofs.Laws.Machine.{timer_table}
use Rattle.meaning.specs.Lent.{coded}
use Rattle.meaning.specs.Programs.{Program, instructions, flip_flop_bytes}
use Rattle.meaning.specs.Scan.{Controller, blank, block_at, flip_flop_on, elapsed, ton, with_in, with_pt, cleared}
use Rattle.meaning.specs.Stands.{code_at, CodesMemory, next_call, StandsFor, coded_sub_state, coded_leaf}
use Rattle.meaning.proofs.Laws.Tests.{Coded, valid_leads, codes_coded, sub_once}

-- ---- the leaf that is shown

module _ (c : Tables) (R : Rules c) (fs : List ℕ) (m : ℕ → ℕ) (W : Leads c m) (C : Coded c fs 0 m) where
  -- the sub-state that the flip-flops give a super-state is the one that they code
  pub coded_sub_state_lem : (a : ℕ) → is_leaf c a ≡ false → coded_sub_state c fs a ≡ m a
  unfolding coded_sub_state coded
  coded_sub_state_lem a n =
      let k = code_at fs (group_first c a) (group_width c a) in
      let e : k ≡ code c (m a) = rw zero-add at (C a n) in
      let h = W a n in
      least_at (coded c a k) 0 (state_count c) (m a) (omega arith) (omega (arith, h.known))
      (and_both (sub_state c a (m a)) (eqb (code c (m a)) k) ((sub_state_tells c a (m a)).1 h) (eq-eqb _ _ (sym e)))
      (λ j l u. elim (which (coded c a k j)) [
        | inr f ↦ f
        | inl f ↦ absurd (let z = sub_once c R a j (m a) n ((sub_state_tells c a j).0 (and_l _ (eqb (code c j) k) f)) h (eqb-true (code c j) k (and_r (sub_state c a j) _ f) ∙ e) in omega arith)
      ])

  -- so they lead to the same leaf
  pub coded_follows : coded_leaf c fs ≡ follow c m 0
  unfolding coded_leaf
  coded_follows = sym (follow_same c R m W (coded_sub_state c fs) 0 (λ a n p q. sym (coded_sub_state_lem a n)))

-- the leaf decoded from flip-flops that code a state's memory is the state's leaf
pub coded_leaf_lem : (c : Tables) → Rules c → (fs : List ℕ) (s : State) → CodesMemory c fs 0 s.memory → Valid c s → coded_leaf c fs ≡ active_leaf c s.memory
unfolding active_leaf
coded_leaf_lem c R fs s C ok = coded_follows c R fs (remembered s.memory) (valid_leads c R s ok) (codes_coded c R fs 0 s.memory C)

-- ---- the start

zero_code : (fs : List ℕ) → ((b : ℕ) → get_or fs b 0 ≡ 0) → (o n : ℕ) → code_at fs o n ≡ 0
unfolding code_at word_of table flip_flop_on
zero_code fs z o zero = refl
zero_code fs z o (suc n) = rw (z o) (omega (arith, zero_code fs z (suc o) n))

-- "All zero is the start.": bytes that are 0, and blocks whose IN was off at their last call
pub start_stands : (c : Tables) → Rules c → (k : Controller) → ((b : ℕ) → get_or k.flip_flops b 0 ≡ 0)
    → ((t : ℕ) → 1 ≤ t → t ≤ timer_count c → (block_at k.blocks t).last ≡ false) → StandsFor c k (start_state c)
unfolding start_state remembered next_call ton with_pt with_in elapsed
start_stands c R k z off = record {
  flips = codes 0;
  copies = codes _;
  blocks = λ t l u. rw (timer_table (λ j. 0) (timer_count c) t l u, zero-min, off t l u, and-false (timer_runs c t (active_leaf c (table (initial c) 0 (state_count c)))));
}
  where
    codes : (o : ℕ) → CodesMemory c k.flip_flops o (table (initial c) 0 (state_count c))
    codes o a h n = rw (get_d_table (initial c) 0 (state_count c) a 0 h, zero-add a, code_initial c a ((sub_state_tells c a (initial c a)).1 (initial_leads c R a n))) (zero_code k.flip_flops z (o + group_first c a) (group_width c a))

-- the cleared controller of any program
pub cleared_stands : (c : Tables) → Rules c → (p : Program) → StandsFor c (cleared p) (start_state c)
unfolding cleared block_at
cleared_stands c R p = start_stands c R (cleared p)
    (λ b. get_d_equal 0 (flip_flop_bytes (instructions p)) b) (λ t l u. ap (λ b. b.last) (get_d_equal blank (length p.timers) (t - 1)))
