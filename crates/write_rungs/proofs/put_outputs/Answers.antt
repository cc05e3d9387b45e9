-- One output more is its rung more; no output is ahead of the last one.
use mathlib.Core.Path.{◌≡◌, ap, ◌∙◌}
use mathlib.Core.List.{List, ◌++◌, flat_map}
use Prim.Native.Nat.{ℕ, suc, ◌+◌, ◌-◌}
use native.Mathlib.Omega.{arith}
use Rattle.meaning.specs.Rows.{table}
use Rattle.meaning.specs.Tables.{Tables}
use Rattle.write_lines.specs.Fit.{PutIfRoom}
use Rattle.write_bits.specs.Sent.{lines}
use Rattle.write_bits.specs.SentLaws.{put_lines, put_nil}
use Rattle.meaning.specs.Programs.{rung_of}
use Rattle.meaning.specs.Written.{output_rungs}
use Rattle.write_bodies.specs.PairLaws.{reaches_start}
use Rattle.write_rungs.specs.Sections.{outputs_to}
use Rattle.write_rungs.specs.SectionLaws.{output_pairs_lem, outputs_snoc}
use Rattle.write_rungs.proofs.put_outputs.Goals as goal

one_more : (c : Tables) (p o : ℕ) → 1 + p ≡ o → {l m n : List ℕ} {i j k : ℕ}
    → PutIfRoom l i (lines (outputs_to c p)) m j → PutIfRoom m j (lines (flat_map rung_of (output_rungs c o))) n k → PutIfRoom l i (lines (outputs_to c o)) n k
one_more c p o z x y =
    let e : o ≡ suc p = omega arith in
    let f : outputs_to c o ≡ outputs_to c p ++ flat_map rung_of (output_rungs c o) =
    ap (outputs_to c) e ∙ outputs_snoc c p ∙ ap (λ q. outputs_to c p ++ flat_map rung_of (output_rungs c q)) z in
    rw f (put_lines (outputs_to c p) (flat_map rung_of (output_rungs c o)) x y)

pub loop-o-init : goal.loop-o-init
unfolding outputs_to flat_map table
loop-o-init c = (
  omega arith,
  λ g q d e f.
      let ps = c.args.t.now.output_pairs.now in
      (reaches_start g g.outputs ps (output_pairs_lem g ps d.rules e), put_nil _ _ (omega arith) (omega arith)),
)

pub loop-o-preserved : goal.loop-o-preserved
loop-o-preserved c = (
  omega arith,
  λ g q d e f.
      let o = c.loop-o.o in
      let i = c.loop-o.invariant.1 g q d e f in
      let x = c.put_output-cursor.ensures g q d e i.0 (omega (arith, d.rules.size.few_outputs, f)) in
      let n : o + 1 - 1 ≡ o = omega arith in
      (x.0, rw n (one_more g (o - 1) o (omega arith) i.1 x.1)),
)

pub returns-2 : goal.returns-2
returns-2 c g q d e f =
    let o = c.loop-o.o in
    let i = c.loop-o.invariant.1 g q d e f in
    let x = c.put_output-cursor.ensures g q d e i.0 (omega (arith, d.rules.size.few_outputs, f)) in
    let z : o ≡ c.args.t.now.chart.outputs = omega arith in
    rw z at (one_more g (o - 1) o (omega arith) i.1 x.1)
