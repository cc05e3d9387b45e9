-- The rows of the run are those of n, and the next run starts at their end.
use native.Mathlib.Numerals.{add-one}
use Rattle.write_bodies.specs.PairLaws.{known, reaches_next, pairs_body_lem}
use Rattle.write_bodies.proofs.put_pairs.Goals as goal

pub returns : goal.returns
returns c g e d many P F =
    let a = c.args in
    let ps = a.pairs.now in
    let r = c.run_end-row in (
      rw add-one (reaches_next g many ps P a.n a.cursor.row r.result F r.ensures),
      rw (pairs_body_lem g many ps P a.n a.cursor.row r.result F r.ensures) at (c.put_or.ensures g e d (known g many ps P a.cursor.row r.result (r.ensures.within F.within))),
    )
