-- A word below the loads of a time loads none.
use Rattle.std.proofs.Common.{sym}
use Rattle.il_times.specs.Sizes.{not_timed}
use Rattle.il_times.proofs.time_of.Goals as goal

pub returns-then-w-lt10 : goal.returns-then-w-lt10
returns-then-w-lt10 c = sym (not_timed c.args.t c.args.w c.if-w-lt10.true)
