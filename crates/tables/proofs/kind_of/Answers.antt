use Rattle.meaning.specs.Literals.{kind_of}
use mathlib.Core.Path.{sym, ap}
use native.Mathlib.Omega.{arith}
use borrow.Author.Tests.{le-leb, lt-leb, ne_eqb}
use Rattle.tables.proofs.kind_of.Goals as goal

pub returns-in-0 : goal.returns-in-0
unfolding kind_of
returns-in-0 c = sym (ap kind_of c.in-0.is)

pub returns-in-1-to-64 : goal.returns-in-1-to-64
unfolding kind_of
returns-in-1-to-64 c =
    let n = c.args.n in
    simp (ne_eqb n 0 (λ e. omega arith), le-leb 1 n (omega arith), le-leb n 64 (omega arith))

pub returns-in-101-to-132 : goal.returns-in-101-to-132
unfolding kind_of
returns-in-101-to-132 c =
    let n = c.args.n in
    simp (ne_eqb n 0 (λ e. omega arith), le-leb 1 n (omega arith), lt-leb n 64 (omega arith), le-leb 101 n (omega arith), le-leb n 132 (omega arith))

pub returns-in_default : goal.returns-in_default
unfolding kind_of
returns-in_default c =
    let n = c.args.n in
    simp (ne_eqb n 0 (λ e. omega arith), le-leb 1 n (omega arith), lt-leb n 64 (omega arith), lt-leb 101 n (omega arith))

pub returns-in_default-2 : goal.returns-in_default-2
unfolding kind_of
returns-in_default-2 c =
    let n = c.args.n in
    simp (ne_eqb n 0 (λ e. omega arith), le-leb 1 n (omega arith), lt-leb n 64 (omega arith), le-leb 101 n (omega arith), lt-leb n 132 (omega arith))
