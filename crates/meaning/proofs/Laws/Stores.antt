-- What a move's stores write: into the working copies only, and only what the memory after the move calls for.
use Rattle.std.specs.Prelude.{◌≡◌, ◌≢◌, ◌⊎◌, Bool, cond, length, get_or, set, eqb}
use Rattle.std.proofs.Math.Path.{refl, ap}
use Rattle.std.proofs.Common.{sym, ap₂, ◌∙◌, zero-add, add-zero, suc-add, arith, get_or-set_same, get_or-set_other}
use Rattle.std.proofs.Math.Logic.{inl, inr}
use Prim.Native.Nat.{ℕ, zero, suc, ◌+◌, ◌*◌, ◌-◌, ◌/◌, ◌%◌, ◌≤◌, ◌<◌}
use Rattle.std.proofs.Math.Nat.{add-suc}
use Rattle.std.proofs.Math.Decide.{ℕ_discrete, dec_le}
use Rattle.std.proofs.Math.Bool.{true, false, true≢false}
use mathlib.Core.List.{List, [], ◌∷◌, ◌++◌}
use Rattle.std.proofs.Math.Seq.{set_out}
use Rattle.meaning.specs.Rows.{table}
use Rattle.meaning.proofs.Laws.Rows.{which, and_l, and_r, get_d_table}
use Rattle.meaning.specs.Tables.{Tables, most_depth, state_count, move_count, super_state, initial, target, mark}
use Rattle.meaning.specs.Hierarchy.{depth, at_or_above, above, is_leaf}
use Rattle.meaning.specs.Layout.{group_width, group_first, flip_flop_count, code}
use Rattle.meaning.proofs.Laws.Layout.{bit_of, bits_written, written_length, written_outside, written_read, group_apart, group_fits}
use Rattle.meaning.specs.Rules.{SubState, Rules}
use Rattle.meaning.proofs.Laws.Tree.{OverByDepth, depth_root, depth_sub, shallow, super_lt, over_yes, yes_over, above_yes, over_refl, over_trans, over_down, over_le, over_lt, over_same, over_super, way_sub, super_no_leaf}
use Rattle.meaning.specs.Machine.{word_of, remembered, descend, follow, leads_below, reached, remembers_after, memory_after_move}
use Rattle.meaning.proofs.Laws.Follow.{Leads, stays_at_leaf, descends, super_known, initial_leads, depth_below, over_below, over_descend, below_leads, enters}
use Rattle.meaning.proofs.Laws.Machine.{target_known}
use Rattle.meaning.specs.Scan.{MidScan, flip_flop_on, stored_in, with_flip_flops}
use Rattle.meaning.specs.Written.{bits_from, group_bits, path_bits, bit_store, initial_stores, stores_from, move_stores}
use Rattle.meaning.specs.Stands.{code_at}
use Rattle.meaning.proofs.Laws.Effects.{store_done, stores_done}
use Rattle.meaning.proofs.Laws.Tests.{sub_fits, sub_of_super}
use Rattle.meaning.specs.declared.Operator.{Operator}

-- flip-flops that agree hold one number
pub same_code : (fs gs : List ℕ) (o p n : ℕ) → ((i : ℕ) → i < n → flip_flop_on fs (o + i) ≡ flip_flop_on gs (p + i)) → code_at fs o n ≡ code_at gs p n
unfolding code_at word_of table
same_code fs gs o p zero h = refl
same_code fs gs o p (suc n) h = ap₂ (λ b r. cond b 1 0 + 2 * r)
    (rw (add-zero o, add-zero p) at (h 0 (omega arith)))
    (same_code fs gs (suc o) (suc p) n (λ i z. rw (add-suc o i, add-suc p i, ← suc-add o i, ← suc-add p i) at (h (suc i) (omega arith))))

-- every byte is 0 or 1
abbrev pub AllBits : List ℕ → Type 0
AllBits fs = (b : ℕ) → get_or fs b 0 ≤ 1

-- and stays so where a 0 or a 1 is written
pub set_bits : (fs : List ℕ) (o v : ℕ) → v ≤ 1 → AllBits fs → AllBits (set fs o v)
set_bits fs o v h B i = elim (ℕ_discrete i o) [
  | yes e ↦ elim (dec_le (suc o) (length fs)) [ yes z ↦ rw (e, get_or-set_same fs o v 0 z) h | no z ↦ rw (set_out fs o v (omega arith)) (B i) ]
  | no n ↦ rw (get_or-set_other fs o i v 0 n) (B i)
]

pub written_bits : (fs : List ℕ) (o n d : ℕ) → AllBits fs → AllBits (bits_written fs o n d)
unfolding bits_written
written_bits fs o zero d B = B
written_bits fs o (suc n) d B = written_bits (set fs o (d % 2)) (suc o) n (d / 2) (set_bits fs o (d % 2) (omega arith) B)

-- stores are done one after the other
pub stores_append : (v : Bool) (p q : List Operator) (w : MidScan) → stores_done v (p ++ q) w ≡ stores_done v q (stores_done v p w)
unfolding stores_done
stores_append v [] q w = refl
stores_append v (s ∷ p) q w = stores_append v p q (store_done v s w)

-- the working copy of a's group codes where m leads
abbrev pub Shows : Tables → (ℕ → ℕ) → ℕ → MidScan → Type 0
Shows c m a w = code_at w.controller.flip_flops (flip_flop_count c + group_first c a) (group_width c a) ≡ code c (m a)

-- there are flip-flops and working copies
abbrev pub Long : Tables → MidScan → Type 0
Long c w = flip_flop_count c + flip_flop_count c ≤ length w.controller.flip_flops

-- the stores write only where the body has passed, only working copies, only what m calls for, and at A all of that
pub record Writes (c : Tables) (m : ℕ → ℕ) (p : List Operator) (A : ℕ → Type 0) : Type 0 where
  pub idle : (w : MidScan) → stores_done false p w ≡ w
  pub bits : (w : MidScan) → AllBits w.controller.flip_flops → AllBits (stores_done true p w).controller.flip_flops
  pub size : (w : MidScan) → length (stores_done true p w).controller.flip_flops ≡ length w.controller.flip_flops
  pub blocks : (w : MidScan) → (stores_done true p w).controller.blocks ≡ w.controller.blocks
  pub outputs : (w : MidScan) → (stores_done true p w).outputs ≡ w.outputs
  pub lower : (w : MidScan) (i : ℕ) → i < flip_flop_count c → flip_flop_on (stores_done true p w).controller.flip_flops i ≡ flip_flop_on w.controller.flip_flops i
  pub keeps : (w : MidScan) (a : ℕ) → Long c w → is_leaf c a ≡ false → Shows c m a w → Shows c m a (stores_done true p w)
  pub writes : (w : MidScan) (a : ℕ) → Long c w → is_leaf c a ≡ false → A a → Shows c m a (stores_done true p w)

module _ (c : Tables) where
  bit_idle : (b : Bool) (o : ℕ) (w : MidScan) → store_done false (bit_store c b o) w ≡ w
  unfolding store_done bit_store
  bit_idle true o w = refl
  bit_idle false o w = refl

  bit_stored : (b : Bool) (o : ℕ) (w : MidScan) → store_done true (bit_store c b o) w ≡ with_flip_flops (set w.controller.flip_flops (flip_flop_count c + o) (cond b 1 0)) w
  unfolding store_done bit_store stored_in
  bit_stored true o w = refl
  bit_stored false o w = refl

  bits_idle : (o n d : ℕ) (w : MidScan) → stores_done false (bits_from (bit_store c) o n d) w ≡ w
  unfolding stores_done bits_from
  bits_idle o zero d w = refl
  bits_idle o (suc n) d w = ap (stores_done false (bits_from (bit_store c) (suc o) n (d / 2))) (bit_idle (eqb (d % 2) 1) o w) ∙ bits_idle (suc o) n (d / 2) w

  -- the stores of a code write its bits
  pub bits_stored : (o n d : ℕ) (w : MidScan) → stores_done true (bits_from (bit_store c) o n d) w ≡ with_flip_flops (bits_written w.controller.flip_flops (flip_flop_count c + o) n d) w
  unfolding stores_done bits_from bits_written with_flip_flops
  bits_stored o zero d w = refl
  bits_stored o (suc n) d w =
      let w1 = with_flip_flops (set w.controller.flip_flops (flip_flop_count c + o) (d % 2)) w in
      ap (stores_done true (bits_from (bit_store c) (suc o) n (d / 2))) (bit_stored (eqb (d % 2) 1) o w ∙ ap (λ b. with_flip_flops (set w.controller.flip_flops (flip_flop_count c + o) b) w) (bit_of d))
      ∙ (rw add-suc at (bits_stored (suc o) n (d / 2) w1))

module _ (c : Tables) (m : ℕ → ℕ) where
  writes_none : Writes c m [] (λ a. ⊥)
  unfolding stores_done
  writes_none = record { idle = λ w. refl; bits = λ w b. b; size = λ w. refl; blocks = λ w. refl; outputs = λ w. refl; lower = λ w i h. refl; keeps = λ w a h e z. z; writes = λ w a h e z. absurd z }

  writes_both : (p q : List Operator) (A B : ℕ → Type 0) → Writes c m p A → Writes c m q B → Writes c m (p ++ q) (λ a. A a ⊎ B a)
  writes_both p q A B P Q = record {
    idle = λ w. stores_append false p q w ∙ ap (stores_done false q) (P.idle w) ∙ Q.idle w;
    bits = λ w b. rw (stores_append true p q w) (Q.bits (stores_done true p w) (P.bits w b));
    size = λ w. rw (stores_append true p q w) (Q.size (stores_done true p w) ∙ P.size w);
    blocks = λ w. rw (stores_append true p q w) (Q.blocks (stores_done true p w) ∙ P.blocks w);
    outputs = λ w. rw (stores_append true p q w) (Q.outputs (stores_done true p w) ∙ P.outputs w);
    lower = λ w i h. rw (stores_append true p q w) (Q.lower (stores_done true p w) i h ∙ P.lower w i h);
    keeps = λ w a h e z. rw (stores_append true p q w) (Q.keeps (stores_done true p w) a (rw (P.size w) h) e (P.keeps w a h e z));
    writes = λ w a h e z. rw (stores_append true p q w) (elim z [
      | inl y ↦ Q.keeps (stores_done true p w) a (rw (P.size w) h) e (P.writes w a h e y)
      | inr y ↦ Q.writes (stores_done true p w) a (rw (P.size w) h) e y
    ]);
  }

  writes_less : (p : List Operator) (A B : ℕ → Type 0) → ((a : ℕ) → is_leaf c a ≡ false → B a → A a) → Writes c m p A → Writes c m p B
  writes_less p A B f P = record { idle = P.idle; bits = P.bits; size = P.size; blocks = P.blocks; outputs = P.outputs; lower = P.lower; keeps = P.keeps; writes = λ w a h e z. P.writes w a h e (f a e z) }

  writes_same : (m' : ℕ → ℕ) → ((a : ℕ) → is_leaf c a ≡ false → m a ≡ m' a) → (p : List Operator) (A : ℕ → Type 0) → Writes c m p A → Writes c m' p A
  writes_same m' f p A P = record {
    idle = P.idle;
    bits = P.bits;
    size = P.size;
    blocks = P.blocks;
    outputs = P.outputs;
    lower = P.lower;
    keeps = λ w a h e z. P.keeps w a h e (z ∙ ap (code c) (sym (f a e))) ∙ ap (code c) (f a e);
    writes = λ w a h e z. P.writes w a h e z ∙ ap (code c) (f a e);
  }

module _ (c : Tables) (R : Rules c) (m : ℕ → ℕ) where
  group_writes : (a b : ℕ) → SubState c a b → m a ≡ b → Writes c m (group_bits c (bit_store c) a b) (λ a'. a' ≡ a)
  unfolding group_bits with_flip_flops
  group_writes a b h e = record {
    idle = bits_idle c (group_first c a) (group_width c a) (code c b);
    bits = λ w y. rw bits_stored (written_bits w.controller.flip_flops (flip_flop_count c + group_first c a) (group_width c a) (code c b) y);
    size = λ w. rw bits_stored (written_length w.controller.flip_flops (flip_flop_count c + group_first c a) (group_width c a) (code c b));
    blocks = λ w. rw bits_stored;
    outputs = λ w. rw bits_stored;
    lower = λ w i l. rw bits_stored (written_outside w.controller.flip_flops (flip_flop_count c + group_first c a) (group_width c a) (code c b) i (inl (omega arith)));
    keeps = λ w a' l z s. elim (ℕ_discrete a' a) [
      | yes y ↦ rw (bits_stored, y) (here w l)
      | no n ↦ rw bits_stored (same_code (bits_written w.controller.flip_flops (flip_flop_count c + group_first c a) (group_width c a) (code c b)) w.controller.flip_flops (flip_flop_count c + group_first c a') (flip_flop_count c + group_first c a') (group_width c a')
          (λ i g. written_outside w.controller.flip_flops (flip_flop_count c + group_first c a) (group_width c a) (code c b) (flip_flop_count c + group_first c a' + i) (apart a' n i g)) ∙ s)
    ];
    writes = λ w a' l z y. rw (bits_stored, y) (here w l);
  }
    where
      n : is_leaf c a ≡ false
      n = super_no_leaf c R a b h

      here : (w : MidScan) → Long c w → code_at (bits_written w.controller.flip_flops (flip_flop_count c + group_first c a) (group_width c a) (code c b)) (flip_flop_count c + group_first c a) (group_width c a) ≡ code c (m a)
      here w l = rw e (written_read w.controller.flip_flops (flip_flop_count c + group_first c a) (group_width c a) (code c b) (sub_fits c R a b n h) (omega (arith, group_fits c a (super_known c R a n))))

      apart : (a' : ℕ) → a' ≢ a → (i : ℕ) → i < group_width c a' → (flip_flop_count c + group_first c a' + i < flip_flop_count c + group_first c a) ⊎ (flip_flop_count c + group_first c a + group_width c a ≤ flip_flop_count c + group_first c a' + i)
      apart a' y i p = elim (dec_le (suc a') a) [ yes u ↦ inl (omega (arith, group_apart c a' a u)) | no u ↦ inr (omega (arith, group_apart c a a' (omega arith))) ]

  -- the groups above t, where m leads to t
  path_writes : (k t : ℕ) → depth c t ≡ k → t < state_count c → ((b : ℕ) → OverByDepth c b t → b ≢ 0 → m (super_state c b) ≡ b) → Writes c m (path_bits c (bit_store c) k t) (λ a. OverByDepth c a t × (a ≢ t))
  unfolding path_bits
  path_writes zero t e h l = writes_less c m [] (λ a. ⊥) (λ a. OverByDepth c a t × (a ≢ t)) (λ a n z. omega (arith, over_lt c R a t z.0 z.1)) (writes_none c m)
  path_writes (suc k) t e h l =
      let z : t ≢ 0 = λ y. omega (arith, ap (depth c) y, depth_root c R) in
      let u = super_state c t in
      writes_less c m (path_bits c (bit_store c) k u ++ group_bits c (bit_store c) u t) (λ a. (OverByDepth c a u × (a ≢ u)) ⊎ (a ≡ u)) (λ a. OverByDepth c a t × (a ≢ t))
      (λ a n y. elim (ℕ_discrete a u) [
        | yes x ↦ inr x
        | no x ↦ inl (over_down c R a u t (over_super c R t z) y.0 (omega (arith, depth_sub c R t z, over_lt c R a t y.0 y.1)), x)
      ])
      (writes_both c m (path_bits c (bit_store c) k u) (group_bits c (bit_store c) u t) _ _
      (path_writes k u (omega (arith, depth_sub c R t z)) (omega (arith, super_lt c R t z)) (λ b p. l b (over_trans c R b u t p (over_super c R t z))))
      (group_writes u t (sub_of_super c R t h z) (l t (over_refl c R t) z)))

  -- the groups from t down, where m leads on by initial sub-states
  initial_writes : (k t : ℕ) → most_depth ≤ k + depth c t → ((a : ℕ) → is_leaf c a ≡ false → OverByDepth c t a → OverByDepth c a (descend c (initial c) k t) → m a ≡ initial c a)
      → Writes c m (initial_stores c k t) (λ a. OverByDepth c t a × OverByDepth c a (descend c (initial c) k t))
  unfolding initial_stores descend
  initial_writes zero t h l = writes_less c m [] (λ a. ⊥) (λ a. OverByDepth c t a × OverByDepth c a t)
      (λ a n z. omega (arith, ap (depth c) (over_same c R a t z.1 z.0), depth_below c R a (initial c a) (initial_leads c R a n), shallow c R (initial c a))) (writes_none c m)
  initial_writes (suc k) t h l = elim (which (is_leaf c t)) [
    | inl e ↦ rw (initial_stores, e, stays_at_leaf c (initial c) (suc k) t e) (writes_less c m [] (λ a. ⊥) (λ a. OverByDepth c t a × OverByDepth c a t)
        (λ a n z. true≢false (sym e ∙ ap (is_leaf c) (over_same c R t a z.0 z.1) ∙ n)) (writes_none c m))
    | inr e ↦ (let b = initial c t in
        let i = initial_leads c R t e in
        let d = depth_below c R t b i in
        let f : OverByDepth c t (descend c (initial c) k b) = over_trans c R t b _ (over_below c R t b i) (over_descend c R (initial c) (initial_leads c R) k b) in
        rw (initial_stores, e, descends c (initial c) k t e) (
        writes_less c m (group_bits c (bit_store c) t b ++ initial_stores c k b) (λ a. (a ≡ t) ⊎ (OverByDepth c b a × OverByDepth c a (descend c (initial c) k b))) (λ a. OverByDepth c t a × OverByDepth c a (descend c (initial c) k b))
        (λ a n y. elim (ℕ_discrete a t) [
          | yes x ↦ inl x
          | no x ↦ inr (over_down c R b a _ y.1 (over_descend c R (initial c) (initial_leads c R) k b) (omega (arith, over_lt c R t a y.0 (λ q. x (sym q)))), y.1)
        ])
        (writes_both c m (group_bits c (bit_store c) t b) (initial_stores c k b) _ _
        (group_writes t b i (l t e (over_refl c R t) (rw (descends c (initial c) k t e) f)))
        (initial_writes k b (omega arith) (λ a n p q. l a n (over_trans c R t b a (over_below c R t b i) p) (rw (descends c (initial c) k t e) q))))))
  ]

-- ---- a move

-- the memory after a move, as a list and as a function
pub moved_at : (c : Tables) (i : ℕ) (m : List ℕ) (a : ℕ) → a < state_count c → remembered (memory_after_move c i m) a ≡ remembers_after c (leads_below c (mark c i) (remembered m)) (remembered m) (target c i) a
unfolding remembered memory_after_move
moved_at c i m a h = let f = remembers_after c (leads_below c (mark c i) (remembered m)) (remembered m) (target c i) in get_d_table f 0 (state_count c) a 0 h ∙ ap f (zero-add a)

-- a move to t with the mark k
module _ (c : Tables) (R : Rules c) (m : ℕ → ℕ) (W : Leads c m) (t : ℕ) (known : t < state_count c) where
  led_there : (k b : ℕ) → OverByDepth c b t → b ≢ 0 → remembers_after c (leads_below c k m) m t (super_state c b) ≡ b
  led_there k b p n =
      let d = depth_sub c R b n in
      enters c R (leads_below c k m) m (below_leads c R k m W) W t known (super_state c b) (over_trans c R (super_state c b) b t (over_super c R b n) p) (λ e. omega (arith, ap (depth c) e, over_le c R b t p))
      ∙ way_sub c R (super_state c b) b t d p

  starts_there : (a : ℕ) → is_leaf c a ≡ false → OverByDepth c t a → OverByDepth c a (follow c (initial c) t) → remembers_after c (leads_below c 0 m) m t a ≡ initial c a
  unfolding remembers_after reached leads_below
  starts_there a n p q = elim (which (above c a t)) [
    | inl e ↦ (let z = above_yes c R a t e in absurd (z.1 (over_same c R a t z.0 p)))
    | inr e ↦ rw (e, remembers_after, yes_over c R t a p, reached, yes_over c R a (follow c (initial c) t) q)
  ]

  -- where the memory changes: above t, or where the mark leads on from there
  changes : (g : ℕ → ℕ) (a : ℕ) → remembers_after c g m t a ≢ m a → (OverByDepth c a t × (a ≢ t)) ⊎ (OverByDepth c t a × OverByDepth c a (follow c g t) × (g a ≢ m a))
  unfolding remembers_after reached
  changes g a n = go (above c a t) refl (reached c g t a) refl
    where
      go : (b : Bool) → above c a t ≡ b → (d : Bool) → reached c g t a ≡ d → (OverByDepth c a t × (a ≢ t)) ⊎ (OverByDepth c t a × OverByDepth c a (follow c g t) × (g a ≢ m a))
      go true e d f = inl (above_yes c R a t e)
      go false e true f = inr (over_yes c R t a (and_l _ (at_or_above c a (follow c g t)) f), over_yes c R a (follow c g t) (and_r (at_or_above c t a) _ f), λ z. n (rw (e, f, remembers_after) z))
      go false e false f = absurd (n (rw (e, f, remembers_after)))

  stores_write : (k : ℕ) → Writes c (remembers_after c (leads_below c k m) m t) (path_bits c (bit_store c) (depth c t) t ++ stores_from c k t) (λ a. remembers_after c (leads_below c k m) m t a ≢ m a)
  unfolding stores_from leads_below follow
  stores_write zero =
      let new = remembers_after c (leads_below c 0 m) m t in
      let k = most_depth - depth c t in
      writes_less c new (path_bits c (bit_store c) (depth c t) t ++ initial_stores c k t) (λ a. (OverByDepth c a t × (a ≢ t)) ⊎ (OverByDepth c t a × OverByDepth c a (descend c (initial c) k t))) (λ a. new a ≢ m a)
      (λ a e n. elim (changes (leads_below c 0 m) a n) [ inl z ↦ inl z | inr z ↦ inr (z.0, z.1) ])
      (writes_both c new (path_bits c (bit_store c) (depth c t) t) (initial_stores c k t) _ _
      (path_writes c R new (depth c t) t refl known (led_there 0)) (initial_writes c R new k t (omega arith) starts_there))
  stores_write (suc k) =
      let new = remembers_after c (leads_below c (suc k) m) m t in
      writes_less c new (path_bits c (bit_store c) (depth c t) t ++ []) (λ a. (OverByDepth c a t × (a ≢ t)) ⊎ ⊥) (λ a. new a ≢ m a)
      (λ a e n. elim (changes (leads_below c (suc k) m) a n) [ inl z ↦ inl z | inr z ↦ inr (z.2 refl) ])
      (writes_both c new (path_bits c (bit_store c) (depth c t) t) [] _ _ (path_writes c R new (depth c t) t refl known (led_there (suc k))) (writes_none c new))

-- a move's stores write what the memory after the move calls for, wherever that differs from the memory before
pub move_writes : (c : Tables) → Rules c → (m : List ℕ) → Leads c (remembered m) → (i : ℕ) → i < move_count c
    → Writes c (remembered (memory_after_move c i m)) (move_stores c i) (λ a. remembered (memory_after_move c i m) a ≢ remembered m a)
unfolding move_stores
move_writes c R m W i h =
    let new = remembers_after c (leads_below c (mark c i) (remembered m)) (remembered m) (target c i) in
    let same : (a : ℕ) → is_leaf c a ≡ false → new a ≡ remembered (memory_after_move c i m) a = λ a n. sym (moved_at c i m a (super_known c R a n)) in
    writes_same c new (remembered (memory_after_move c i m)) same (move_stores c i) (λ a. remembered (memory_after_move c i m) a ≢ remembered m a)
    (writes_less c new (move_stores c i) (λ a. new a ≢ remembered m a) (λ a. remembered (memory_after_move c i m) a ≢ remembered m a) (λ a n z y. z (sym (same a n) ∙ y))
    (stores_write c R (remembered m) W (target c i) (target_known c R i h) (mark c i)))
