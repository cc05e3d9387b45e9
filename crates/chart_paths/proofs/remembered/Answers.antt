-- A place past the end remembers 0.
use Rattle.std.proofs.Common.{rules}
use Rattle.meaning.specs.Machine.{remembered}
use Rattle.chart_paths.proofs.remembered.Goals as goal

pub returns : goal.returns
unfolding remembered
returns c = search rules
