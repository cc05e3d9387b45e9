-- What the tests of a lent controller say: document 01's row 14.
use Rattle.std.specs.Prelude.{◌≡◌, refl, ℕ, zero, suc, ◌+◌, ◌≤◌, ◌<◌, true, ◌&&◌, List, [], ◌∷◌, map, length, get_or, drop, replicate, leb}
use Rattle.std.proofs.Common.{◌∙◌, arith, leb-true}
use Rattle.std.proofs.lemmas.List.{length-map}
use Rattle.std.proofs.Math.ListN.{get_or-append}
use Rattle.std.proofs.lemmas.List.Edits.{sets, sets-eq}
use Rattle.meaning.proofs.Laws.Rows.{and_l}
use Rattle.meaning.specs.Tables.{most_timers}
use Rattle.meaning.specs.Programs.{TimerRung, Program, all, timer_rung_fits, rung_fits, program_fits}
use Rattle.meaning.specs.declared.Operand.TheVariants.{True}
use Rattle.il_scan.specs.Scans.{Fitting}

-- "byte not 0 or 1"
abbrev pub AreBits : List ℕ → Type 0
AreBits fs = (b : ℕ) → b < length fs → get_or fs b 0 ≤ 1

mapped : (ts : List TimerRung) (t : ℕ) (r : TimerRung) → t < length ts → get_or (map (λ (s : TimerRung). s.time) ts) t 0 ≡ (get_or ts t r).time
mapped [] t r h = absurd (omega arith)
mapped (s ∷ ts) zero r h = refl
mapped (s ∷ ts) (suc t) r h = mapped ts t r (omega arith)

pub time_at : (ts : List TimerRung) (t : ℕ) (r : TimerRung) → t < length ts → length ts ≤ 32 → get_or (sets (replicate 32 0) 0 (map (λ (s : TimerRung). s.time) ts)) t 0 ≡ (get_or ts t r).time
time_at ts t r h g =
    let m : List ℕ = map (λ (s : TimerRung). s.time) ts in
    let e : length m ≡ length ts = length-map ts (λ (s : TimerRung). s.time) in
    let z : List ℕ = replicate 32 0 in
    let f : length z ≡ 32 = refl in
    rw (sets-eq m z 0 (omega arith)) (get_or-append m (drop (0 + length m) z) 0 t (omega arith) ∙ mapped ts t r h)

pub some_rung : TimerRung
some_rung = record { body = record { first = record { wanted = true; operand = True }; parts = [] }; time = 0 }

pub few_timers_lem : (p : Program) (ws : List ℕ) → Fitting p ws → length p.timers ≤ 32
unfolding program_fits
few_timers_lem p ws f =
    let d = length p.timers in
    leb-true d 32 (and_l (leb d most_timers) (all (timer_rung_fits d) p.timers) (and_l (leb d most_timers && all (timer_rung_fits d) p.timers) (all (rung_fits d) p.rungs) f.program))
