-- After i scans the controller stands for the state that the machine is in.
use Rattle.std.proofs.Common.{◌≡◌, length}
use Rattle.meaning.specs.Tables.{Tables}
use Rattle.roundtrip_run.specs.Going.{ProgramCleared, Going}
use Rattle.roundtrip_run.proofs.run_scans.Given as goal

abbrev pub invariant-loop-i : goal.invariant-loop-i
invariant-loop-i l =
    (c : Tables) → c.scan_step ≡ l.t.chart.step → c.states ≡ l.t.states.now → ProgramCleared c l.layout l.words l.initial.flip_flops
    → length l.initial.leaves ≡ length l.inputs → length l.initial.outputs ≡ length l.inputs
    → Going c l.inputs l.i l.flip_flops l.blocks l.leaves l.outputs
