-- What is measured over no byte ends at 0 where there is no line.
use Rattle.write_rungs.specs.Rungs.{stores_of}
use Rattle.write_rungs.specs.RungLaws.{none_measured}
use Rattle.write_rungs.proofs.sets_none.Goals as goal

pub returns : goal.returns
returns c g q d h =
    let a = c.args in
    none_measured (stores_of g a.target a.mark) _ (c.put_stores.ensures g q d h).next
