-- The codes of the super-states, and the values of the timers.
use Rattle.meaning.specs.Tables.{timer_count}
use Rattle.meaning.specs.Lent.{lent_length}
use Rattle.chart_state_read.proofs.state_length.Goals as goal

pub returns : goal.returns
unfolding lent_length timer_count
returns c d e p R = rw (← c.super_states.ensures.1 d e R, p)
