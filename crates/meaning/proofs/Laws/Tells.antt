-- What a test made of parts tells, from what its parts tell.
use Rattle.std.specs.Prelude.{◌≡◌, refl, ◌⊎◌, ◌↔◌, ℕ, ◌≤◌, ◌<◌, Bool, true, false, not, cond, ◌&&◌, ◌||◌, leb, ltb, eqb}
use Rattle.std.proofs.Common.{inl, inr, arith, eqb-true, eq-eqb, lt-ltb, ltb-true, leb-true, le-leb}
use Rattle.std.proofs.lemmas.Bool.{false≢true}
use Rattle.meaning.specs.Rows.{some, every}
use Rattle.meaning.proofs.Laws.Rows.{and_l, and_r, and_both, or_cases, or_l, or_r, some_yes, some_intro, every_yes, every_intro}

-- both parts
pub and_tells : {a b : Bool} {A B : Type 0} → (a ≡ true) ↔ A → (b ≡ true) ↔ B → ((a && b) ≡ true) ↔ (A × B)
and_tells {a} {b} f g = ((λ e. (f.0 (and_l a b e), g.0 (and_r a b e))), (λ r. and_both a b (f.1 r.0) (g.1 r.1)))

-- one of the parts
pub or_tells : {a b : Bool} {A B : Type 0} → (a ≡ true) ↔ A → (b ≡ true) ↔ B → ((a || b) ≡ true) ↔ (A ⊎ B)
or_tells {a} {b} f g = (
  (λ e. elim (or_cases a b e) [ inl p ↦ inl (f.0 p) | inr p ↦ inr (g.0 p) ]),
  elim [ inl x ↦ or_l a b (f.1 x) | inr x ↦ or_r a b (g.1 x) ],
)

-- not the part
pub not_tells : {a : Bool} {A : Type 0} → (a ≡ true) ↔ A → (not a ≡ true) ↔ (A → ⊥)
not_tells {a = true} f = ((λ e x. false≢true e), (λ n. absurd (n (f.0 refl))))
not_tells {a = false} f = ((λ e x. false≢true (f.1 x)), (λ n. refl))

-- one part where the condition is so, the other where it is not
pub cond_tells : {t a b : Bool} {T A B : Type 0} → (t ≡ true) ↔ T → (a ≡ true) ↔ A → (b ≡ true) ↔ B → (cond t a b ≡ true) ↔ ((T → A) × ((T → ⊥) → B))
cond_tells {t = true} h f g = ((λ e. ((λ x. f.0 e), (λ n. absurd (n (h.0 refl))))), (λ r. f.1 (r.0 (h.0 refl))))
cond_tells {t = false} h f g = ((λ e. ((λ x. absurd (false≢true (h.1 x))), (λ n. g.0 e))), (λ r. g.1 (r.1 (λ x. false≢true (h.1 x)))))

-- the second part wherever the first
pub implies_tells : {a b : Bool} {A B : Type 0} → (a ≡ true) ↔ A → (b ≡ true) ↔ B → ((not a || b) ≡ true) ↔ (A → B)
implies_tells {a = true} f g = ((λ e x. g.0 e), (λ r. g.1 (r (f.0 refl))))
implies_tells {a = false} f g = ((λ e x. absurd (false≢true (f.1 x))), (λ r. refl))

-- the part at some number below n
pub some_tells : {p : ℕ → Bool} {P : ℕ → Type 0} (n : ℕ) → ((k : ℕ) → k < n → (p k ≡ true) ↔ P k) → (some p 0 n ≡ true) ↔ ((k : ℕ) × (k < n) × P k)
some_tells {p} n f = (
  (λ e. let r = some_yes p 0 n e in let h : r.0 < n = omega (arith, r.2) in (r.0, h, (f r.0 h).0 r.3)),
  (λ r. some_intro p 0 n r.0 (omega arith) (omega (arith, r.1)) ((f r.0 r.1).1 r.2)),
)

-- the part at every number below n
pub every_tells : {p : ℕ → Bool} {P : ℕ → Type 0} (n : ℕ) → ((k : ℕ) → k < n → (p k ≡ true) ↔ P k) → (every p 0 n ≡ true) ↔ ((k : ℕ) → k < n → P k)
every_tells {p} n f = ((λ e k h. (f k h).0 (every_yes p n e k h)), (λ r. every_intro p n (λ k h. (f k h).1 (r k h))))

-- the numbers are equal
pub eqb_tells : (a b : ℕ) → (eqb a b ≡ true) ↔ (a ≡ b)
eqb_tells a b = (eqb-true a b, eq-eqb a b)

-- the first number is below the second
pub ltb_tells : (a b : ℕ) → (ltb a b ≡ true) ↔ (a < b)
ltb_tells a b = (ltb-true a b, lt-ltb a b)

-- the first number is at most the second
pub leb_tells : (a b : ℕ) → (leb a b ≡ true) ↔ (a ≤ b)
leb_tells a b = (leb-true a b, le-leb a b)
