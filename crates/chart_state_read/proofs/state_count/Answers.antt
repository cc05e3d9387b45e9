-- Any tables with these states have as many.
use Rattle.std.proofs.Common.{arith}
use Rattle.tables.specs.Given.{given}
use Rattle.tables.specs.Same.{state_count_same}
use Rattle.chart_state_read.proofs.state_count.Goals as goal

pub returns : goal.returns
returns c = (omega arith, λ d e R. omega (arith, R.size.few_states, state_count_same d (given c.args.t.now) e))
