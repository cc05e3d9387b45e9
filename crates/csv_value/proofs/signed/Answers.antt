-- The two's complement read back: what fits 16 bits is the number, and 0 stands for the rest.
use Rattle.std.specs.Prelude.{◌≡◌, ℕ, ◌<◌, ◌≤◌, ◌-◌, ℤ, pos, negsuc, Ok, Err, Result, ltb}
use borrow.Author.Rules.{rules}
use Rattle.std.proofs.Common.{◌∙◌, arith, ap, lt-ltb, le-ltb, ltb-true, ltb-false, inl, inr}
use Rattle.std.proofs.lemmas.Int.{ints, to_z-of_z}
use Rattle.std.specs.Result.{OkIff, result_unwrap_or}
use Rattle.meaning.proofs.Laws.Rows.{which}
use mir.Syntax.{w16, w64}
use mir.Val.{SFits, to_z, of_z}
use Rattle.csv_value.specs.Decimals.{signed_of}
use Rattle.csv_value.proofs.signed.Goals as goal

-- a word as a signed number, by its half
positive : (x : ℕ) → x < 9223372036854775808 → to_z w64 x ≡ pos x
positive x h = omega (arith, ints)

negative : (x : ℕ) → 9223372036854775808 ≤ x → to_z w64 x ≡ negsuc (18446744073709551615 - x)
negative x h = rw (le-ltb x 9223372036854775808 h) (ap negsuc (omega arith))

fits : (x : ℕ) → SFits w16 (to_z w64 x) → to_z w64 x ≡ signed_of x
unfolding signed_of
fits x f = elim (which (ltb x 9223372036854775808)) [
  | inl e ↦ (let h : x < 9223372036854775808 = ltb-true x 9223372036854775808 e in
      let g : SFits w16 (pos x) = rw (positive x h) at f in
      rw (positive x h, lt-ltb x 32768 g.sfits))
  | inr e ↦ (let h : 9223372036854775808 ≤ x = ltb-false x 9223372036854775808 e in
      let g : SFits w16 (negsuc (18446744073709551615 - x)) = rw (negative x h) at f in
      let k : 18446744073709551615 - x < 32768 = g.sfits in
      rw (negative x h, le-ltb x 32768 (omega arith), le-ltb x 18446744073709518848 (omega arith)))
]

other : (x : ℕ) → x < 18446744073709551616 → (SFits w16 (to_z w64 x) → ⊥) → pos 0 ≡ signed_of x
unfolding signed_of
other x l n = elim (which (ltb x 32768)) [
  | inl e ↦ (let h : x < 32768 = ltb-true x 32768 e in
      absurd (n (rw (positive x (omega arith)) (record { sfits = omega arith }))))
  | inr e ↦ elim (which (ltb x 18446744073709518848)) [
    | inl f ↦ rw (e, f)
    | inr f ↦ (let h : 18446744073709518848 ≤ x = ltb-false x 18446744073709518848 f in
        absurd (n (rw (negative x (omega arith)) (record { sfits = omega arith }))))
  ]
]

read_back : {E : Type 0} (x : ℕ) → x < 18446744073709551616 → (r : Result ℤ E) → OkIff r (SFits w16 (to_z w64 x)) (to_z w64 x)
    → result_unwrap_or r (pos 0) ≡ signed_of x
read_back x h (Ok v) k = k.1 ∙ fits x k.0
read_back x h (Err d) k = other x h k

pub returns : goal.returns
returns c =
    let s : SFits w16 c.unwrap_or.result = search rules in
    let t : SFits w64 c.cast_signed.result = search rules in
    let e : to_z w64 (of_z w64 c.cast_signed.result) ≡ to_z w64 c.args.x = to_z-of_z w64 _ t ∙ c.cast_signed.ensures in
    to_z-of_z w16 _ s ∙ (c.unwrap_or.ensures ∙ read_back c.args.x (omega arith) c.try_from.result (rw e at c.try_from.ensures))
