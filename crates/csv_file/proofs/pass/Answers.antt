-- What is fed and finished is the call of the file's reader.
use Rattle.std.proofs.Common.{rules, ◌≤◌, ◌<◌, length}
use Rattle.csv_field.specs.Field.{most64}
use Rattle.csv_file.specs.ReadLaws.{calls_pass}
use Rattle.csv_file.proofs.pass.Goals as goal

pub returns : goal.returns
returns c = let a = c.args in
    let h : length a.bytes.now < most64 = search rules in
    let k : length a.out.now ≤ most64 = search rules in
    let f = rw c.reader_for.ensures at c.feed-s.ensures in
    calls_pass a.file a.bytes.now a.out.now _ _ h (record { state = _; between = _; fed = f; finished = c.finish.ensures; room = k })
