-- The state, then the lengths, are refused as the definition says; else the run is the machine's, and what is put back is its state.
use native.Mathlib.Omega.{arith}
use mathlib.Core.Path.{◌≡◌, refl, sym, ◌∙◌}
use lib.ListN.{length, replicate}
use lib.Dec.{eqb}
use Rattle.std.proofs.lemmas.List.{length-replicate}
use Prim.Native.Nat.{ℕ}
use mathlib.Core.Bool.{true, ◌&&◌}
use borrow.Author.Tests.{eqb-true}
use Rattle.meaning.proofs.Laws.Rows.{and_l, and_r}
use Rattle.meaning.specs.Machine.{Valid}
use Rattle.meaning.proofs.Laws.Machine.{after_valid}
use Rattle.meaning.specs.Lent.{state_passes}
use Rattle.meaning.proofs.Laws.Lent.{lent_valid}
use Rattle.tables.specs.Given.{given}
use Rattle.layout.specs.SameLaws.{codes_same}
use Rattle.chart_scan.specs.Held.{held, TablesGiven}
use Rattle.chart_state_read.specs.CodesLaws.{right_length, codes_given}
use Rattle.chart_lent.specs.RunLaws.{zero_room, refused_state, refused_scans, done}
use Rattle.chart_lent.proofs.run_in.Goals as goal

pub returns-then-not-state_passes : goal.returns-then-not-state_passes
returns-then-not-state_passes g c d G R n m =
    let a = c.args in
    let O = zero_room d g.row.STATES (replicate g.row.NEEDS 0) n (rw length-replicate m) in
    let C = codes_given d R.size.few_states c.codes_of-codes.result (c.codes_of-codes.ensures ∙ codes_same (given a.t.now) d (sym G.lent.states)) in
    let r = c.state_passes.ensures d G.step G.lent.states G.lent.presets G.lent.timer_pairs R C O.state in
    refused_state d a.inputs.now a.state.now a.leaves.now a.outputs.now (sym r.0 ∙ c.if-not-state_passes.true)

pub returns-then-not-scans_pass : goal.returns-then-not-scans_pass
returns-then-not-scans_pass g c d G R n m =
    let a = c.args in
    let O = zero_room d g.row.STATES (replicate g.row.NEEDS 0) n (rw length-replicate m) in
    let C = codes_given d R.size.few_states c.codes_of-codes.result (c.codes_of-codes.ensures ∙ codes_same (given a.t.now) d (sym G.lent.states)) in
    let r = c.state_passes.ensures d G.step G.lent.states G.lent.presets G.lent.timer_pairs R C O.state in
    refused_scans d a.inputs.now a.state.now a.leaves.now a.outputs.now (sym r.0 ∙ c.if-not-state_passes.false) (sym c.scans_pass.ensures ∙ c.if-not-scans_pass.true)

pub returns : goal.returns
returns g c d G R n m =
    let a = c.args in
    let O = zero_room d g.row.STATES (replicate g.row.NEEDS 0) n (rw length-replicate m) in
    let C = codes_given d R.size.few_states c.codes_of-codes.result (c.codes_of-codes.ensures ∙ codes_same (given a.t.now) d (sym G.lent.states)) in
    let r = c.state_passes.ensures d G.step G.lent.states G.lent.presets G.lent.timer_pairs R C O.state in
    let l = a.state.now in
    let sp = c.state_passes in
    let run = c.run in
    let yes-passes = c.if-not-state_passes.false in
    let k : ℕ = length a.inputs.now in
    let scans : (eqb (length a.leaves.now) k && eqb (length a.outputs.now) k) ≡ true = sym c.scans_pass.ensures ∙ c.if-not-scans_pass.false in
    let same-leaves : length a.leaves.now ≡ k = eqb-true (length a.leaves.now) k (and_l (eqb (length a.leaves.now) k) (eqb (length a.outputs.now) k) scans) in
    let same-outputs : length a.outputs.now ≡ k = eqb-true (length a.outputs.now) k (and_r (eqb (length a.leaves.now) k) (eqb (length a.outputs.now) k) scans) in
    let passes : state_passes d l ≡ true = sym r.0 ∙ yes-passes in
    let D = r.1 yes-passes in
    let long = right_length d R l passes in
    let v : Valid d (held d sp.new.memory sp.new.timers) = rw D.state (lent_valid d R l passes) in
    let full : length sp.new.timers ≡ 32 = sp.auto.timers in
    let G' : TablesGiven d a.t.now.chart.step a.t.now.chart.outputs a.t.now.states.now a.t.now.moves.now a.t.now.presets.now d.timer_pairs a.t.now.output_pairs.now =
    record { step = G.step; outputs = G.outputs; lent = record { states = G.lent.states; moves = G.lent.moves; presets = G.lent.presets; timer_pairs = refl; output_pairs = G.lent.output_pairs } } in
    let s = run.ensures d G' R D.running O.scans (omega (arith, O.state.memory_room, sp.auto.memory)) full v same-leaves same-outputs in
    let w : Valid d (held d run.new.memory run.new.timers) = rw s.state (after_valid d R a.inputs.now _ v) in
    done d a.inputs.now a.state.now a.leaves.now a.outputs.now passes same-leaves same-outputs (held d run.new.memory run.new.timers)
    c.encode.new.state run.new.leaves run.new.outputs
    (rw D.state at s) (c.encode.ensures d G.lent.states G.lent.presets R C (run.auto.timers ∙ full) w long)
