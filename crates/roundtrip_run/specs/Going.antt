-- A chart's program run scan after scan in a controller with blocks to spare.
use Rattle.std.specs.Prelude.{◌≡◌, ℕ, ◌+◌, ◌*◌, ◌-◌, ◌≤◌, ◌<◌, List, map, length, set, take, replicate}
use Rattle.std.proofs.Math.Path.{refl, ap, subst}
use Rattle.std.proofs.Common.{sym, ◌∙◌, arith, add-one, take_all, take_at}
use Rattle.std.proofs.Math.ListN.{get_or, length-replicate}
use Rattle.std.proofs.lemmas.List.{replicate-append-replicate}
use Rattle.meaning.proofs.Laws.Rows.{get_d_equal}
use Rattle.meaning.specs.Tables.{Tables}
use Rattle.meaning.specs.Layout.{flip_flop_count}
use Rattle.meaning.specs.Rules.{Rules}
use Rattle.meaning.specs.Machine.{State, start_state, state_after_step, Seen, seen_in, trace, state_after_scans, Valid}
use Rattle.meaning.proofs.Laws.Machine.{start_valid, step_valid}
use Rattle.meaning.specs.History.{history_reading}
use Rattle.meaning.proofs.Laws.History.{run_is_reading}
use Rattle.meaning.specs.Scan.{Controller, blank, block_at}
use Rattle.meaning.specs.Written.{program}
use Rattle.meaning.proofs.Laws.Programs.{program_fits_lem}
use Rattle.meaning.specs.Stands.{StandsFor, coded_leaf}
use Rattle.meaning.proofs.Laws.Stands.{start_stands}
use Rattle.meaning.proofs.Laws.Simulate.{HoldsProgram}
use Rattle.meaning.specs.Demands.{seen_after_scan}
use Rattle.meaning.proofs.Laws.Demands.{held_step}
use Rattle.meaning.specs.declared.Block.{Block}
use Rattle.format.specs.Words.{words}
use Rattle.layout.specs.Laid.{LaidOut}
use Rattle.layout.specs.declared.Layout.{Layout}
use Rattle.chart_scan.specs.Held.{StateScanned}
use Rattle.chart_scan.specs.StepLaws.{ran_more}
use Rattle.il_scan.specs.Scans.{controller_of, OneScan}
use Rattle.roundtrip_run.specs.AsRead.{AsRead}

-- accepted tables with this layout, the words of their program, and cleared flip-flops
pub record ProgramCleared (c : Tables) (l : Layout) (ws fs : List ℕ) : Type 0 where
  pub rules : Rules c
  pub laid : LaidOut c l
  pub list : words (program c) ≡ ws
  pub clear : fs ≡ replicate (2 * flip_flop_count c) 0

-- after i scans: the controller stands for the state that the machine is in, and what was seen stands in the results
pub record Going (c : Tables) (xs : List ℕ) (i : ℕ) (fs : List ℕ) (bs : List Block) (ls os : List ℕ) : Type 0 where
  pub state : State
  pub valid : Valid c state
  pub holds : HoldsProgram c (controller_of fs bs)
  pub stands : StandsFor c (controller_of fs bs) state
  pub ran : StateScanned c (start_state c) (take i xs) state (take i ls) (take i os)

-- the part of the cleared bytes that a chart's program uses
pub part_cleared : (t n : ℕ) → t ≡ n → n ≤ 128 → take {A = ℕ} (2 * t) (replicate 256 0) ≡ replicate (2 * n) 0
part_cleared t n e h =
    let z : 256 ≡ 2 * n + (256 - 2 * n) = omega arith in
    rw e (ap (λ (m : ℕ). take {A = ℕ} (2 * n) (replicate m 0)) z ∙ ap (take {A = ℕ} (2 * n)) (sym (replicate-append-replicate {A = ℕ} (2 * n) (256 - 2 * n) 0))
    ∙ take_at {A = ℕ} (replicate (2 * n) 0) (replicate (256 - 2 * n) 0) (2 * n) (length-replicate {A = ℕ} (2 * n) 0))

module _ (c : Tables) (R : Rules c) where
  pub going_start : (xs fs ls os : List ℕ) → fs ≡ replicate (2 * flip_flop_count c) 0 → Going c xs 0 fs (replicate 32 blank) ls os
  unfolding trace state_after_scans block_at
  going_start xs fs ls os e = record {
    state = start_state c;
    valid = start_valid c R;
    holds = record {
      bits = λ b. rw (e, get_d_equal {A = ℕ} 0 (2 * flip_flop_count c) b) (omega arith);
      size = rw e (length-replicate {A = ℕ} (2 * flip_flop_count c) 0 ∙ (omega arith));
      blocks = omega (arith, length-replicate 32 blank, R.size.few_timers);
    };
    stands = start_stands c R (controller_of fs (replicate 32 blank)) (λ b. rw e (get_d_equal 0 (2 * flip_flop_count c) b)) (λ t l u. ap (λ b. b.last) (get_d_equal blank 32 (t - 1)));
    ran = record { state = refl; leaves = refl; outputs = refl };
  }

  pub going_on : (xs : List ℕ) (i : ℕ) (ws fs fs' : List ℕ) (bs bs' : List Block) (ls os : List ℕ) (d o : ℕ) → c.scan_step ≡ d → words (program c) ≡ ws → i < length xs → i < length ls → i < length os
      → Going c xs i fs bs ls os → OneScan d (get_or xs i 0) ws (controller_of fs bs) (controller_of fs' bs') o
      → Going c xs (i + 1) fs' bs' (set ls i (coded_leaf c fs')) (set os i o)
  unfolding seen_after_scan
  going_on xs i ws fs fs' bs bs' ls os d o e f h j k g r =
      let x = get_or xs i 0 in
      let z = rw (← e) at (r.right (program c) (record { program = program_fits_lem c R; list = f })) in
      let s = held_step c R (controller_of fs bs) g.state x g.valid g.holds g.stands in
      let leaf : coded_leaf c fs' ≡ (seen_in c (state_after_step c x g.state)).leaf = ap (λ (t : Controller). coded_leaf c t.flip_flops) z.0 ∙ ap (λ (t : Seen). t.leaf) s.same in
      let word : o ≡ (seen_in c (state_after_step c x g.state)).outputs = z.1 ∙ ap (λ (t : Seen). t.outputs) s.same in
      record {
        state = state_after_step c x g.state;
        valid = step_valid c R x g.state g.valid;
        holds = subst (HoldsProgram c) (sym z.0) s.holds;
        stands = subst (λ t. StandsFor c t (state_after_step c x g.state)) (sym z.0) s.stands;
        ran = rw (leaf, word, add-one) (ran_more c (start_state c) xs ls os g.state i x refl h j k g.ran);
      }

  -- when all are done
  pub going_end : (xs : List ℕ) (i : ℕ) (fs : List ℕ) (bs : List Block) (ls os : List ℕ) → length xs ≤ i → length ls ≡ length xs → length os ≡ length xs
      → Going c xs i fs bs ls os → AsRead c xs ls os
  going_end xs i fs bs ls os h p q g =
      let t : trace c (start_state c) (take i xs) ≡ history_reading c xs = ap (trace c (start_state c)) (take_all i xs h) ∙ run_is_reading c R xs in
      record {
        leaves = sym (take_all i ls (omega arith)) ∙ g.ran.leaves ∙ ap (map (λ (e : Seen). e.leaf)) t;
        outputs = sym (take_all i os (omega arith)) ∙ g.ran.outputs ∙ ap (map (λ (e : Seen). e.outputs)) t;
      }
