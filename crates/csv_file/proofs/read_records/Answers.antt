-- The first pass says how many numbers there are, or why the file is refused; the second, over out, passes as the first did.
use Rattle.std.proofs.Common.{rules, arith, ◌*◌, ◌<◌, ◌≤◌, length, refl}
use Rattle.std.proofs.lemmas.Result.{err_from_is_err_and}
use Rattle.csv_field.specs.Field.{most64}
use Rattle.csv_file.specs.ReadLaws.{count_few, read_refused, read_cramped, read_passed, passes_again}
use Rattle.csv_file.proofs.read_records.Goals as goal

pub overflow_mul-numbers : goal.overflow_mul-numbers
overflow_mul-numbers c = let a = c.args in
    let h : length a.bytes.now < most64 = search rules in
    let q = c.in_ok-records.ensures in
    rw c.row_for.ensures (omega (arith, count_few a.file a.bytes.now _ _ _ q))

pub returns-in_err-records : goal.returns-in_err-records
returns-in_err-records c = let a = c.args in
    let p = err_from_is_err_and c.from_residual.result c.from_residual.ensures.1 in
    rw (p.1, p.2) (read_refused a.file a.bytes.now _ _ _ a.out.now a.out.now c.in_err-records.ensures refl)

pub returns-then-out-numbers : goal.returns-then-out-numbers
returns-then-out-numbers c = let a = c.args in
    let q = c.in_ok-records.ensures in
    read_cramped a.file a.bytes.now _ _ c.in_ok-records.records c.row_for.result a.out.now a.out.now q c.row_for.ensures (omega (arith, c.if-out-numbers.true)) refl

pub returns-in_err-pass : goal.returns-in_err-pass
returns-in_err-pass c = absurd (passes_again c.args.file c.args.bytes.now c.args.out.now _ _ _ _ _ c.in_ok-records.ensures c.in_err-pass.ensures)

pub returns : goal.returns
returns c = let a = c.args in
    let q = c.in_ok-records.ensures in
    let r = c.row_for.ensures in
    let t : c.in_ok-records.records * c.row_for.result ≤ length a.out.now = omega (arith, c.if-out-numbers.false) in
    rw r (read_passed a.file a.bytes.now _ _ _ a.out.now _ _ q (rw r at t) c.pass-2.ensures)
