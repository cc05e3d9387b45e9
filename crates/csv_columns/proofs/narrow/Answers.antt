-- One number more.
use Rattle.std.proofs.Common.{◌∙◌, add-one}
use Rattle.csv_columns.specs.Low.{stores_next_lem}
use Rattle.csv_columns.proofs.narrow.Goals as goal

pub loop-i-preserved : goal.loop-i-preserved
loop-i-preserved g c =
    rw (add-one, c.put.ensures, c.narrow.ensures)
    (stores_next_lem g.T.Column.stored_as c.loop-i.to c.args.from.now c.loop-i.i c.loop-i-test.true ∙ c.loop-i.invariant)
