-- A word that calls a block and one that runs by itself, and that no word is left in the end.
use Rattle.std.proofs.Common.{◌≡◌, ℕ, List, sym, ap, ◌∙◌, length, drop, get_or, arith}
use Rattle.format.specs.Decode.{decoded}
use Rattle.il_called.specs.Due.{due}
use Rattle.il_instruction.specs.declared.Registers.{Registers}
use Rattle.il_scan.specs.declared.Stop.{Stop}
use Rattle.il_scan.specs.Run.{Reached, advanced}
use Rattle.il_scan.specs.Advance.{StopKnown, advance_end, advance_due, advance_on, advance_goes}
use Rattle.il_scan.proofs.advance.Goals as goal

-- whatever is reached is known to be further on
reached : (x c : ℕ) (ws : List ℕ) (at : ℕ) (s : Registers) (fs : List ℕ) (t : Stop) (fs' : List ℕ)
    → advanced x c (drop at ws) at s fs ≡ record { stop = t; flip_flops = fs' }
    → (t ≡ (advanced x c (drop at ws) at s fs).stop) × (fs' ≡ (advanced x c (drop at ws) at s fs).flip_flops)
    × StopKnown c (length ws) at t
reached x c ws at s fs t fs' e =
    let f : (advanced x c (drop at ws) at s fs).stop ≡ t = ap (λ (z : Reached). z.stop) e in
    (sym f, sym (ap (λ (z : Reached). z.flip_flops) e), rw f at (advance_goes x c ws at s fs))

pub returns-in-Some : goal.returns-in-Some
returns-in-Some c =
    let a = c.args in
    let l = c.loop-i in
    let e : c.in-Some.k ≡ due a.count (decoded (get_or a.words.now l.i 0)) = c.in-Some.ensures.block in
    let g = rw e at c.in-Some.ensures.within in
    let r = sym l.invariant.same ∙ advance_due a.x a.count a.words.now l.i l.s l.flip_flops (omega arith) g in
    rw e (reached a.x a.count a.words.now a.p.at a.p.running a.flip_flops.now _ l.flip_flops r)

pub loop-i-preserved : goal.loop-i-preserved
loop-i-preserved c =
    let a = c.args in
    let l = c.loop-i in
    let e : due a.count (decoded (get_or a.words.now l.i 0)) ≡ a.count = c.in-None.ensures.block in
    let r = advance_on a.x a.count a.words.now l.i l.s l.flip_flops (omega arith) (omega arith) in
    record {
      same = rw (c.run_word-s.ensures.0, c.run_word-s.ensures.1) (sym r ∙ l.invariant.same);
      within = omega arith;
    }

pub returns : goal.returns
returns c =
    let a = c.args in
    let l = c.loop-i in
    let m : c.max.result ≡ l.i = omega arith in
    let r = sym l.invariant.same ∙ advance_end a.x a.count a.words.now l.i l.s l.flip_flops (omega arith) in
    rw (c.ended.ensures, m) (reached a.x a.count a.words.now a.p.at a.p.running a.flip_flops.now _ l.flip_flops r)
