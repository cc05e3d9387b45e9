-- After n numbers the names of those among them that the word has are written.
use mathlib.Core.List.{◌++◌}
use Rattle.meaning.specs.Literals.{input_on}
use Rattle.format.specs.Text.{decimal}
use Rattle.format.specs.NeedsTable.{names_of}
use Rattle.print_needs.specs.Names.{NamesPut}
use Rattle.print_needs.proofs.put_names.Given as goal

abbrev pub invariant-loop-n : goal.invariant-loop-n
invariant-loop-n l =
    NamesPut l.initial.out l.initial.p (names_of (λ n. l.head ++ (decimal n ++ l.tail)) (input_on l.word) l.n) l.out l.p
