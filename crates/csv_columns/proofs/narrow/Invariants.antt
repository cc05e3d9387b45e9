-- The numbers from i on take what is stored so far to what all of them make of the slice.
use Rattle.std.proofs.Common.{◌≡◌, map, drop}
use Rattle.std.proofs.lemmas.List.Edits.{sets}
use Rattle.csv_columns.proofs.narrow.Given as goal

abbrev pub invariant-loop-i : goal.invariant-loop-i
invariant-loop-i g l =
    sets l.to l.i (map g.T.Column.stored_as (drop l.i l.from)) ≡ sets l.initial.to 0 (map g.T.Column.stored_as l.from)
