-- What a chart's bodies come to: a state's tests pass exactly where the state is on the path, a move's exactly where it is enabled.
use Rattle.std.specs.Prelude.{◌≡◌, ◌≢◌, Bool, true, false, cond, ◌||◌, leb, nat_abs}
use Rattle.std.proofs.Math.Path.{refl, sym, ap, ap₂}
use Rattle.std.proofs.Common.{◌∙◌, arith, true≢false}
use Rattle.std.proofs.Math.Logic.{inl, inr}
use Prim.Native.Nat.{ℕ, zero, suc, ◌+◌, ◌-◌, ◌^◌, ◌≤◌, ◌<◌}
use Rattle.std.proofs.Math.Nat.{zero-add}
use Rattle.std.proofs.Math.Decide.{ℕ_discrete}
use Rattle.std.proofs.Math.Bool.{◌&&◌, and_assoc, and-true, or_assoc, or-false}
use Rattle.std.specs.Bool.{beq}
use Rattle.std.proofs.lemmas.Bool.{false≢true}
use mathlib.Core.List.{List, [], ◌∷◌, ◌++◌, map, flat_map}
use Rattle.std.proofs.Math.Dec.{eqb}
use borrow.Author.Tests.{eqb-true, eq-eqb, leb-true}
use Rattle.meaning.specs.Rows.{some, every, table}
use Rattle.meaning.proofs.Laws.Rows.{which, and_l, and_r, same_test}
use Rattle.meaning.specs.Tables.{Tables, most_depth, literal_places, state_count, move_count, timer_count, pair_count, super_state, initial, source, literal, pair_number, pair_state}
use Rattle.meaning.specs.Hierarchy.{depth, at_or_above, on_the_way, is_leaf, paired}
use Rattle.meaning.proofs.Laws.Hierarchy.{sub_state_tells, no_leaf_tells}
use Rattle.meaning.specs.Layout.{group_width, group_first, code}
use Rattle.meaning.proofs.Laws.Layout.{tests_pass, code_fits, code_once}
use Rattle.meaning.specs.Literals.{between, kind_of, wanted, holds_as, holds, literals_hold}
use Rattle.meaning.specs.Rules.{SubState, PairRule, WithinCounts, Rules}
use Rattle.meaning.proofs.Laws.Tree.{OverByDepth, depth_root, depth_sub, depth_zero, shallow, super_lt, over_yes, yes_over, over_le, over_lt, over_trans, over_down, over_super, over_root, over_way, way_sub, super_no_leaf}
use Rattle.meaning.specs.Machine.{State, remembered, active_leaf, follow, enabled, timer_expired, setting, Valid}
use Rattle.meaning.proofs.Laws.Follow.{Leads, super_known, initial_leads, way_is_sub, over_descend, on_path, through}
use Rattle.meaning.specs.Programs.{Test, Part, also, bracket, all}
use Rattle.meaning.specs.Scan.{Controller, value_of, block_at}
use Rattle.meaning.specs.Written.{group_bits, path_bits, bit_test, state_tests, kind_test, literal_tests, chain, or_body, and_body, pair_states, pairs_body}
use Rattle.meaning.specs.Stands.{code_at, CodesMemory}
use Rattle.meaning.proofs.Laws.Effects.{test_passes, chain_passes, part_after, parts_after, body_passes}
use Rattle.meaning.specs.declared.Block.{Block}
use Rattle.meaning.specs.declared.Kind.{Kind}
use Rattle.meaning.specs.declared.Kind.TheVariants.{Unused, Input, Timer, Unknown}

-- one element passes
unfoldable pub any : {A : Type 0} → (A → Bool) → List A → Bool
any f [] = false
any f (x ∷ xs) = f x || any f xs

-- the flip-flops from o on code where every super-state leads
abbrev pub Coded : Tables → List ℕ → ℕ → (ℕ → ℕ) → Type 0
Coded c fs o m = (a : ℕ) → is_leaf c a ≡ false → code_at fs (o + group_first c a) (group_width c a) ≡ code c (m a)

-- ---- lists of tests

-- all elements of two lists pass exactly where those of both do
pub all_append : {A : Type 0} (f : A → Bool) (xs ys : List A) → all f (xs ++ ys) ≡ (all f xs && all f ys)
unfolding all
all_append f [] ys = refl
all_append f (x ∷ xs) ys = rw (all_append f xs ys) (sym (and_assoc (f x) (all f xs) (all f ys)))

-- the first of the numbers passes, or a later one
pub some_step_lem : (p : ℕ → Bool) (i n : ℕ) → some p i (suc n) ≡ (p i || some p (suc i) n)
unfolding some
some_step_lem p i n = elim (which (p i)) [ inl e ↦ rw (some, e) | inr e ↦ rw (some, e) ]

-- the first of the numbers passes, and all later ones
pub every_step : (p : ℕ → Bool) (i n : ℕ) → every p i (suc n) ≡ (p i && every p (suc i) n)
unfolding some
every_step p i n = elim (which (p i)) [ inl e ↦ rw (some, e) | inr e ↦ rw (some, e) ]

-- one of the numbers in a table passes
pub any_table : (p : ℕ → Bool) (i n : ℕ) → any p (table (λ j. j) i n) ≡ some p i n
unfolding any table some
any_table p i zero = refl
any_table p i (suc n) = ap (λ b. p i || b) (any_table p (suc i) n) ∙ sym (some_step_lem p i n)

-- all the numbers in a table pass
pub all_table : (p : ℕ → Bool) (i n : ℕ) → all p (table (λ j. j) i n) ≡ every p i n
unfolding all table some
all_table p i zero = refl
all_table p i (suc n) = ap (λ b. p i && b) (all_table p (suc i) n) ∙ sym (every_step p i n)

-- where none of a list passes, what stands in it does not
pub any_no : (p : ℕ → Bool) (i : ℕ) (is : List ℕ) → any p is ≡ false → any (eqb i) is ≡ true → p i ≡ false
unfolding any
any_no p i [] e h = absurd (false≢true h)
any_no p i (j ∷ is) e h = elim (which (p j)) [
  | inl f ↦ absurd (true≢false (rw f at e))
  | inr f ↦ elim (which (eqb i j)) [ inl g ↦ rw (eqb-true i j g) f | inr g ↦ any_no p i is (rw f at e) (rw g at h) ]
]

-- ---- bodies

module _ (x : ℕ) (k : Controller) where
  -- a chain passes exactly where all its tests do
  pub chain_passes_lem : (ts : List Test) → chain_passes x k (chain ts) ≡ all (test_passes x k) ts
  unfolding chain_passes chain all test_passes value_of
  chain_passes_lem [] = refl
  chain_passes_lem (t ∷ ts) = refl

  also_after : (v : Bool) (ts : List Test) (ps : List Part) → parts_after x k v (map also ts ++ ps) ≡ parts_after x k (v && all (test_passes x k) ts) ps
  unfolding parts_after part_after all
  also_after v [] ps = rw (and-true v)
  also_after v (t ∷ ts) ps = also_after (v && test_passes x k t) ts ps ∙ rw (and_assoc v (test_passes x k t) (all (test_passes x k) ts))

  brackets_after : (v : Bool) (tss : List (List Test)) → parts_after x k v (map (λ us. bracket (chain us)) tss) ≡ (v || any (all (test_passes x k)) tss)
  unfolding parts_after part_after any
  brackets_after v [] = sym (or-false v)
  brackets_after v (ts ∷ tss) = brackets_after (v || chain_passes x k (chain ts)) tss ∙ rw (chain_passes_lem ts, or_assoc v (all (test_passes x k) ts) (any (all (test_passes x k)) tss))

  -- an OR of chains passes exactly where all tests of one of them do
  pub or_passes : (tss : List (List Test)) → body_passes x k (or_body tss) ≡ any (all (test_passes x k)) tss
  unfolding body_passes or_body any parts_after test_passes value_of chain_passes
  or_passes [] = refl
  or_passes (ts ∷ tss) = also_after (test_passes x k (chain ts).first) (chain ts).more (map (λ us. bracket (chain us)) tss)
      ∙ brackets_after _ tss ∙ ap (λ v. v || any (all (test_passes x k)) tss) (chain_passes_lem ts)

  -- an AND passes exactly where all its tests do
  pub and_passes : (ts : List Test) → body_passes x k (and_body ts) ≡ all (test_passes x k) ts
  unfolding and_body any
  and_passes ts = or_passes (ts ∷ []) ∙ or-false (all (test_passes x k) ts)

-- ---- a state's tests

-- what a state remembers leads to sub-states, as Laws/Follow.antt asks
pub valid_leads : (c : Tables) → Rules c → (s : State) → Valid c s → Leads c (remembered s.memory)
valid_leads c R s v a e = v.leads a (super_known c R a e) ((no_leaf_tells c a).0 e)

-- flip-flops that code a list of memories code where they lead
pub codes_coded : (c : Tables) → Rules c → (fs : List ℕ) (o : ℕ) (m : List ℕ) → CodesMemory c fs o m → Coded c fs o (remembered m)
codes_coded c R fs o m C a e = C a (super_known c R a e) e

module _ (c : Tables) (R : Rules c) where
  -- a sub-state's code fits its super-state's group
  pub sub_fits : (a s : ℕ) → is_leaf c a ≡ false → SubState c a s → code c s < 2 ^ group_width c a
  sub_fits a s e h = code_fits c a ((sub_state_tells c a (initial c a)).1 (initial_leads c R a e)) s ((sub_state_tells c a s).1 h)

  -- and no other sub-state has it
  pub sub_once : (a s t : ℕ) → is_leaf c a ≡ false → SubState c a s → SubState c a t → code c s ≡ code c t → s ≡ t
  sub_once a s t e h g = code_once c a ((sub_state_tells c a (initial c a)).1 (initial_leads c R a e)) s t ((sub_state_tells c a s).1 h) ((sub_state_tells c a t).1 g)

  -- every state but the root is a sub-state of its super-state
  pub sub_of_super : (s : ℕ) → s < state_count c → s ≢ 0 → SubState c (super_state c s) s
  sub_of_super s h n = record { not_root = n; known = h; under = refl }

  module _ (m : ℕ → ℕ) (W : Leads c m) (x : ℕ) (k : Controller) (C : Coded c k.flip_flops 0 m) where
    -- a group's tests pass exactly where the super-state leads there
    group_passes : (s : ℕ) → s < state_count c → s ≢ 0 → all (test_passes x k) (group_bits c (bit_test c) (super_state c s) s) ≡ eqb (m (super_state c s)) s
    unfolding group_bits test_passes
    group_passes s h n =
        let a = super_state c s in
        let g = sub_of_super s h n in
        let e = super_no_leaf c R a s g in
        let z : code_at k.flip_flops (group_first c a) (group_width c a) ≡ code c (m a) = rw zero-add at (C a e) in
        tests_pass c x k (group_first c a) (group_width c a) (code c s) (sub_fits a s e g)
        ∙ ap (λ d. eqb d (code c s)) z
        ∙ same_test (eqb (code c (m a)) (code c s)) (eqb (m a) s)
        (λ f. eq-eqb (m a) s (sub_once a (m a) s e (W a e) g (eqb-true _ _ f)))
        (λ f. eq-eqb _ _ (ap (code c) (eqb-true (m a) s f)))

    -- what passes leads to s
    led : (d s : ℕ) → depth c s ≡ d → s < state_count c → all (test_passes x k) (path_bits c (bit_test c) d s) ≡ true → (b : ℕ) → OverByDepth c b s → b ≢ 0 → m (super_state c b) ≡ b
    unfolding path_bits
    led zero s e h t b p n = absurd (n (depth_zero c R b (omega (arith, over_le c R b s p))))
    led (suc d) s e h t b p n =
        let z : s ≢ 0 = λ y. omega (arith, ap (depth c) y, depth_root c R) in
        let u = rw all_append at t in
        elim (ℕ_discrete b s) [
          | yes y ↦ rw y (eqb-true _ _ (sym (group_passes s h z) ∙ and_r (all (test_passes x k) (path_bits c (bit_test c) d (super_state c s))) _ u))
          | no y ↦ led d (super_state c s) (omega (arith, depth_sub c R s z)) (omega (arith, super_lt c R s z)) (and_l _ (all (test_passes x k) (group_bits c (bit_test c) (super_state c s) s)) u) b
              (over_down c R b (super_state c s) s (over_super c R s z) p (omega (arith, depth_sub c R s z, over_lt c R b s p y))) n
        ]

    -- what is on the path passes
    lit : (d s : ℕ) → depth c s ≡ d → s < state_count c → OverByDepth c s (follow c m 0) → all (test_passes x k) (path_bits c (bit_test c) d s) ≡ true
    unfolding path_bits all follow
    lit zero s e h p = refl
    lit (suc d) s e h p =
        let z : s ≢ 0 = λ y. omega (arith, ap (depth c) y, depth_root c R) in
        let q : OverByDepth c (super_state c s) (follow c m 0) = over_trans c R (super_state c s) s _ (over_super c R s z) p in
        let g : m (super_state c s) ≡ s = on_path c R m W (most_depth - depth c 0) 0 (super_state c s) (over_root c R (super_state c s)) q
        (λ y. omega (arith, over_le c R s _ p, depth_sub c R s z, ap (depth c) y))
        ∙ way_sub c R (super_state c s) s _ (depth_sub c R s z) p in
        rw (all_append, lit d (super_state c s) (omega (arith, depth_sub c R s z)) (omega (arith, super_lt c R s z)) q, group_passes s h z) (eq-eqb _ _ g)

    -- "A state is the AND of its path's code bits": they pass exactly where the state is on the path
    pub state_passes_lem : (s : ℕ) → s < state_count c → all (test_passes x k) (state_tests c s) ≡ at_or_above c s (follow c m 0)
    unfolding state_tests follow
    state_passes_lem s h = same_test _ _
        (λ t. yes_over c R s (follow c m 0) (rw (through c R m W s h
        (λ a p n. let i = way_is_sub c R a s h p n in ap m (sym i.under) ∙ led (depth c s) s refl h t (on_the_way c a s) (over_way c R a s p n) i.not_root)
        (most_depth - depth c s) (most_depth - depth c 0) 0 (over_root c R s) (omega (arith, depth_root c R, shallow c R s)))
        (over_descend c R m W (most_depth - depth c s) s)))
        (λ e. lit (depth c s) s refl h (over_yes c R s (follow c m 0) e))

    pairs_some : (ps : List ℕ) (n i r : ℕ) → ((j : ℕ) → i ≤ j → j < i + r → pair_state ps j < state_count c)
        → any (all (test_passes x k)) (map (state_tests c) (flat_map (λ j. cond (eqb (pair_number ps j) n) (pair_state ps j ∷ []) []) (table (λ j. j) i r)))
        ≡ some (λ j. eqb (pair_number ps j) n && at_or_above c (pair_state ps j) (follow c m 0)) i r
    unfolding any flat_map table some
    pairs_some ps n i zero h = refl
    pairs_some ps n i (suc r) h =
        let rest = pairs_some ps n (suc i) r (λ j a b. h j (omega arith) (omega arith)) in
        rw (some_step_lem) (elim (which (eqb (pair_number ps i) n)) [
          | inl e ↦ rw (e, state_passes_lem (pair_state ps i) (h i (omega arith) (omega arith)), rest)
          | inr e ↦ rw e rest
        ])

    -- the OR of the states paired with n passes exactly where one of them is on the path
    pub pairs_pass : (many : ℕ) (ps : List ℕ) → ((j : ℕ) → j < pair_count ps → PairRule c many ps j) → (n : ℕ) → body_passes x k (pairs_body c ps n) ≡ paired c ps n (follow c m 0)
    unfolding pairs_body pair_states paired
    pairs_pass many ps h n = or_passes x k (map (state_tests c) (pair_states ps n)) ∙ pairs_some ps n 0 (pair_count ps) (λ j a b. (h j (omega arith)).state)

-- ---- a move's tests

-- a timer that a literal names counts from 1
abbrev FromOne : Kind → Type 0
FromOne Unused = Unit {0}
FromOne (Input i) = Unit {0}
FromOne (Timer t) = 1 ≤ t
FromOne Unknown = Unit {0}

from_one : (n : ℕ) → FromOne (kind_of n)
unfolding kind_of
from_one n = elim (which (eqb n 0)) [
  | inl e ↦ rw (e, kind_of) tt
  | inr e ↦ elim (which (between 1 64 n)) [
    | inl f ↦ rw (e, kind_of, f) tt
    | inr f ↦ elim (which (between 101 132 n)) [
      | inl g ↦ (let h = leb-true 101 n (and_l _ (leb n 132) g) in rw (e, kind_of, f, g) (omega arith))
      | inr g ↦ rw (e, kind_of, f, g) tt
    ]
  ]
]

-- the blocks say which timers are expired
abbrev pub Tells : Tables → List Block → State → Type 0
Tells c bs s = (t : ℕ) → 1 ≤ t → t ≤ timer_count c → (block_at bs t).q ≡ timer_expired c (active_leaf c s.memory) s.timers t

module _ (c : Tables) (x : ℕ) (k : Controller) (s : State) (T : Tells c k.blocks s) where
  kind_passes : (w : Bool) (q : Kind) → WithinCounts c q → FromOne q → all (test_passes x k) (kind_test c w q) ≡ holds_as (setting c x s) w q
  unfolding all kind_test holds_as test_passes value_of setting
  kind_passes w Unused h l = refl
  kind_passes w (Input i) h l = and-true _
  kind_passes w (Timer t) h l = and-true _ ∙ ap (beq w) (T t l h)
  kind_passes w Unknown h l = absurd h

  literals_every : (i j n : ℕ) → ((a : ℕ) → j ≤ a → a < j + n → WithinCounts c (kind_of (nat_abs (literal c i a))))
      → all (test_passes x k) (flat_map (λ z. kind_test c (wanted z) (kind_of (nat_abs z))) (table (literal c i) j n)) ≡ every (λ a. holds (setting c x s) (literal c i a)) j n
  unfolding all flat_map table some holds
  literals_every i j zero h = refl
  literals_every i j (suc n) h =
      let z = literal c i j in
      all_append (test_passes x k) (kind_test c (wanted z) (kind_of (nat_abs z))) _
      ∙ ap₂ ◌&&◌ (kind_passes (wanted z) (kind_of (nat_abs z)) (h j (omega arith) (omega arith)) (from_one (nat_abs z))) (literals_every i (suc j) n (λ a p q. h a (omega arith) (omega arith)))
      ∙ sym (every_step (λ a. holds (setting c x s) (literal c i a)) j n)

  -- the tests of a move's literals pass exactly where the literals hold
  pub literals_pass : Rules c → (i : ℕ) → i < move_count c → all (test_passes x k) (literal_tests c i) ≡ literals_hold c (setting c x s) i
  unfolding literal_tests literals_hold
  literals_pass R i h = literals_every i 0 literal_places (λ a p q. (R.literals i h).known a (omega arith))

-- a move's source is a state
pub source_known : (c : Tables) → Rules c → (i : ℕ) → i < move_count c → source c i < state_count c
unfolding source
source_known c R i h = let r = (R.moves i h).from_known in rw r.1 r.2

-- a move's body passes exactly where the move is enabled
pub move_passes_lem : (c : Tables) (R : Rules c) (s : State) → Valid c s → (x : ℕ) (k : Controller) → Coded c k.flip_flops 0 (remembered s.memory) → Tells c k.blocks s
    → (i : ℕ) → i < move_count c → body_passes x k (and_body (state_tests c (source c i) ++ literal_tests c i)) ≡ enabled c (setting c x s) (active_leaf c s.memory) i
unfolding enabled active_leaf
move_passes_lem c R s v x k C T i h = and_passes x k (state_tests c (source c i) ++ literal_tests c i)
    ∙ all_append (test_passes x k) (state_tests c (source c i)) (literal_tests c i)
    ∙ ap₂ ◌&&◌ (state_passes_lem c R (remembered s.memory) (valid_leads c R s v) x k C (source c i) (source_known c R i h)) (literals_pass c x k s T R i h)
