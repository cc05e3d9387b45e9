-- A number that no file has is SIZE; else the file is read, and told.
use mathlib.Core.Path.{refl, sym, ◌∙◌}
use borrow.Author.Tests.{leb-true, leb-false}
use Rattle.capi.specs.Files.{KindRead}
use Rattle.capi.proofs.splicetuck_read_records.Goals as goal

pub returns-then-not-is_file : goal.returns-then-not-is_file
returns-then-not-is_file c =
    let p = c.is_file in
    KindRead.unknown (leb-false _ 6 (sym p.ensures ∙ c.if-not-is_file.true)) c.into.ensures refl

pub returns : goal.returns
returns c =
    let p = c.is_file in
    KindRead.known (leb-true _ 6 (sym p.ensures ∙ c.if-not-is_file.false)) _ (rw c.file_of.ensures at c.read_records.ensures) c.into-2.ensures
