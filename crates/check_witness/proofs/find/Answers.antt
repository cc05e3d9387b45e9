-- OVERLAP comes after HIERARCHY and LITERAL, so what these say is known, and so is that an earlier move overlaps.
use native.Mathlib.Omega.{arith}
use mathlib.Core.Path.{refl, sym}
use Rattle.tables.specs.Given.{given}
use Rattle.check_tree.specs.Falling.{falling}
use Rattle.check_overlap.specs.Told.{EarlierTold}
use Rattle.check_overlap.specs.EarlierLaws.{some_told}
use Rattle.check_witness.specs.Passed.{overlap_known}
use Rattle.check_witness.proofs.find.Goals as goal

pub unwrap-j-requires : goal.unwrap-j-requires
unwrap-j-requires c =
    let d = given c.args.t.now in
    let k = overlap_known d c.args.i c.requires in
    let few = k.passed.size.few_moves in
    let n = c.of.ensures in
    let words = c.fill.ensures d (sym n.0) (sym n.1) refl k.passed.literals (omega (arith, few)) in
    let told : EarlierTold d c.args.i c.earlier.result = c.earlier.ensures (falling d k.passed.size.state_rows k.passed.hierarchy)
    (omega (arith, k.known, few, c.fill.auto.words)) (λ m z. words m (omega (arith, k.known, z))) in
    some_told d c.args.i c.earlier.result told k.some

pub returns : goal.returns
returns c =
    let d = given c.args.t.now in
    let k = overlap_known d c.args.i c.requires in
    let few = k.passed.size.few_moves in
    let n = c.of.ensures in
    let words = c.fill.ensures d (sym n.0) (sym n.1) refl k.passed.literals (omega (arith, few)) in
    let told : EarlierTold d c.args.i c.earlier.result = c.earlier.ensures (falling d k.passed.size.state_rows k.passed.hierarchy)
    (omega (arith, k.known, few, c.fill.auto.words)) (λ m z. words m (omega (arith, k.known, z))) in
    let first = rw c.unwrap-j.ensures at told in
    c.show.ensures (omega (arith, few, c.fill.auto.words)) words k.known first.0 first.1
