-- Where there is room for the part, it stands in the place of as many bytes.
use mathlib.Core.Path.{◌≡◌}
use Prim.Native.Nat.{◌+◌, ◌-◌, ◌≤◌}
use native.Mathlib.Omega.{arith}
use borrow.Author.Rules.{rules}
use lib.ListN.{length}
use Rattle.write_lines.specs.Fit.{sets_part}
use Rattle.write_lines.proofs.put_part.Goals as goal

pub returns : goal.returns
returns c =
    let a = c.args in
    let k = c.saturating_add-next.result in
    let n : a.at + length a.part.now ≤ length a.out.now = omega arith in
    let e : k - a.at ≡ length a.part.now = omega arith in
    record {
      small = omega arith;
      long = search rules;
      list = λ h. rw c.copy_from_slice.ensures.after (sets_part a.out.now a.at (k - a.at) a.part.now h e);
      next = omega arith;
    }
