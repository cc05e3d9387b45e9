-- Inputs, then timers; where no name was written, the sign for nothing.
use Rattle.print_needs.specs.Names.{set_put, things_some, things_none}
use Rattle.print_needs.proofs.put_things.Goals as goal

pub returns-then-q : goal.returns-then-q
returns-then-q c = things_some (set_put c.put_names-p.ensures c.put_names-q.ensures) c.if-q.true

pub returns : goal.returns
returns c = things_none (set_put c.put_names-p.ensures c.put_names-q.ensures) c.if-q.false c.put.ensures
