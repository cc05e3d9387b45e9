-- No second answer: what that says of a contract. An outcome is the result, the lent slices at exit, or both. Each
-- library crate has a law for each of its public functions (specs/Once.antt; here proofs/Laws/Once.antt), about the
-- very predicate in its `ensures`; docs/PROMISES.md lists the exceptions.
use Rattle.std.specs.Prelude.{◌≡◌, List, ℕ, ◌^◌, ◌<◌, get_or}

-- any two outcomes that meet P are the same
abbrev pub Once : {A : Type 0} → (A → Type 0) → Type 0
Once {A} P = (x y : A) → P x → P y → x ≡ y

-- .. are the same as far as `see` shows them; what it does not show is open
abbrev pub OnceSeen : {A B : Type 0} → (A → B) → (A → Type 0) → Type 0
OnceSeen {A} see P = (x y : A) → P x → P y → see x ≡ see y

-- what the type of a slice of 64-bit words says of it, where a contract tells the words bit by bit
abbrev pub Words64 : List ℕ → Type 0
Words64 l = (i : ℕ) → get_or l i 0 < 2 ^ 64
