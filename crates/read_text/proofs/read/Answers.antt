-- By the laws of ReadLaws: where the first pass stops, where there is no room, and what the second pass writes.
use Rattle.std.proofs.Common.{◌≡◌, ℕ, Ok, Err, Result, sym, refl, true, false}
use Rattle.std.specs.Result.{MatchResult, is_ok}
use Rattle.std.proofs.lemmas.Result.{MatchResult-at_ok, err_from_is_err_and}
use native.Mathlib.Omega.{arith}
use Rattle.read_text.specs.ReadLaws.{read_cramped, read_again, read_stopped}
use Rattle.read_text.proofs.read.Goals as goal

ok_case : (s : Result ℕ ℕ) (P Q : ℕ → Type 0) → MatchResult s P Q → is_ok s ≡ true → (n : ℕ) × (s ≡ Ok n) × P n
ok_case (Ok n) P Q m v = (n, refl, m)
ok_case (Err k) P Q m v = cc

err_case : (s : Result ℕ ℕ) (P Q : ℕ → Type 0) → MatchResult s P Q → is_ok s ≡ false → (k : ℕ) × (s ≡ Err k) × Q k
err_case (Ok n) P Q m v = cc
err_case (Err k) P Q m v = (k, refl, m)

pub returns-in_err-n : goal.returns-in_err-n
returns-in_err-n c =
    let p = err_from_is_err_and c.from_residual.result c.from_residual.ensures.1 in
    let z = err_case c.pass.result _ _ c.in_err-n.ensures.cases (sym c.in_err-n.ensures.variant) in
    rw (p.1, p.2, z.2) (read_stopped c.args.out.now c.args.out.now refl (rw z.1 at c.pass.ensures))

pub returns-then-out-n : goal.returns-then-out-n
returns-then-out-n c =
    let z = ok_case c.pass.result _ _ c.in_ok-n.ensures.cases (sym c.in_ok-n.ensures.variant) in
    let e : c.pass.result ≡ Ok c.in_ok-n.n = cc in
    read_cramped c.args.out.now c.args.out.now refl (rw e at c.pass.ensures) (omega arith) (omega arith)

pub returns : goal.returns
returns c =
    let z = ok_case c.pass.result _ _ c.in_ok-n.ensures.cases (sym c.in_ok-n.ensures.variant) in
    let e : c.pass.result ≡ Ok c.in_ok-n.n = cc in
    read_again c.args.out.now c.pass-2.new.out c.pass-2.result (rw e at c.pass.ensures) (omega arith) c.pass-2.ensures (λ m f. MatchResult-at_ok _ _ m f c.map_err-2.ensures.cases)
