-- A number more is a name more, or none.
use Rattle.std.proofs.Common.{arith, true, false, eq-eqb, ne_eqb}
use Prim.Native.Nat.{ℕ, suc, ◌-◌, ◌/◌, ◌%◌, ◌^◌}
use lib.Dec.{eqb}
use mathlib.Core.Path.{◌≡◌, ◌∙◌}
use mathlib.Core.List.{List}
use native.Mathlib.Numerals.{add-one}
use Rattle.meaning.specs.Literals.{input_on}
use Rattle.format.specs.NeedsTable.{names_of}
use Rattle.print_needs.specs.Names.{NamesPut, between_parts, names_names, names_next, names_kept, names_none, no_name}
use Rattle.print_needs.proofs.put_names.Goals as goal
use Rattle.print_needs.proofs.put_names.Goals.{then-word-n-eq1, else-word-n-eq1}

pub loop-n-init : goal.loop-n-init
loop-n-init c =
    rw (names_none (between_parts c.args.head.now c.args.tail.now) (input_on c.args.word)) (no_name _ _ (omega arith) (omega arith))

pub loop-n-preserved : goal.loop-n-preserved
unfolding input_on
loop-n-preserved c =
    let b = c.loop-n in
    let w : ℕ = c.args.word in
    let name : ℕ → List ℕ = between_parts c.args.head.now c.args.tail.now in
    let e : suc b.n - 1 ≡ b.n = omega arith in
    let f : input_on w (suc b.n) ≡ eqb (w / 2 ^ b.n % 2) 1 = rw (input_on, e) in
    elim c.if-word-n-eq1.branch [
      | then-word-n-eq1 v ↦
          let g : input_on w (suc b.n) ≡ true = f ∙ eq-eqb _ 1 v.if-word-n-eq1.true in
          let more : NamesPut c.args.out.now c.args.at (names_of name (input_on w) (suc b.n)) v.put_name-p.new.out v.put_name-p.result =
          rw (names_next name (input_on w) b.n g) (names_names b.invariant (rw add-one at v.put_name-p.ensures)) in
          rw (v.out-is, v.p-is, add-one) more
      | else-word-n-eq1 v ↦
          let g : input_on w (suc b.n) ≡ false = f ∙ ne_eqb _ 1 v.if-word-n-eq1.false in
          let kept : NamesPut c.args.out.now c.args.at (names_of name (input_on w) (suc b.n)) b.out b.p =
          rw (names_kept name (input_on w) b.n g) b.invariant in
          rw (v.out-is, v.p-is, add-one) kept
    ]
