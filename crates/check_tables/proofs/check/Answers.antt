-- SIZE, the tables, the moves and FLIP-FLOPS one after the other; what has passed is what the next one stands on.
use Rattle.std.proofs.Common.{◌∙◌, ◌≡◌, refl, sym, ap, true, false, [], ◌∷◌, ◌++◌, ℕ, ◌≤◌, ◌<◌, ◌%◌, length}
use Rattle.std.proofs.lemmas.Result.{err_from_is_err_and}
use borrow.Author.Tests.{leb-true, eqb-true}
use Rattle.meaning.proofs.Laws.Rows.{and_l, and_r}
use Rattle.meaning.specs.Tables.{Tables, state_count, move_count}
use Rattle.meaning.specs.Rules.{HierarchyRule}
use Rattle.meaning.specs.Check.{size_passes, verdict_of}
use Rattle.meaning.proofs.Laws.Rules.{hierarchy_tells}
use Rattle.tables.specs.Given.{given}
use Rattle.check_tree.specs.Falling.{falling}
use Rattle.check_idle.specs.Leaves.{EarlierPassed}
use Rattle.check_tables.specs.Verdicts.{hierarchy_check, initial_check, preset_check, timer_pair_check, output_pair_check, table_checks, move_checks, flip_flop_check}
use Rattle.check_tables.specs.Verdicts.{is_refused, passed, front_decides, later_decide, first_goes, rest_goes, size_stops, size_goes}
use Rattle.check_tables.proofs.check.Goals as goal

few : (c : Tables) → size_passes c ≡ true → state_count c ≤ 256
unfolding size_passes
few c e = leb-true (state_count c) 256 (search (and_l, and_r) depth 14)

few_moves_lem : (c : Tables) → size_passes c ≡ true → move_count c ≤ 512
unfolding size_passes
few_moves_lem c e = leb-true (move_count c) 512 (search (and_l, and_r) depth 14)

even : (c : Tables) → size_passes c ≡ true → length c.states % 2 ≡ 0
unfolding size_passes
even c e = eqb-true (length c.states % 2) 0 (search (and_l, and_r) depth 14)

hierarchy : (c : Tables) → is_refused (verdict_of (table_checks c)) ≡ false → (s : ℕ) → s < state_count c → HierarchyRule c s
hierarchy c f = (λ s h. (hierarchy_tells c s).0 (passed (hierarchy_check c) (first_goes (hierarchy_check c) (initial_check c ∷ preset_check c ∷ timer_pair_check c ∷ output_pair_check c ∷ []) f) s h))

sound : (c : Tables) → size_passes c ≡ true → is_refused (verdict_of (table_checks c)) ≡ false → EarlierPassed c
sound c e f = record {
  initials = passed (initial_check c) (first_goes (initial_check c) (preset_check c ∷ timer_pair_check c ∷ output_pair_check c ∷ [])
      (rest_goes (hierarchy_check c) (initial_check c ∷ preset_check c ∷ timer_pair_check c ∷ output_pair_check c ∷ []) f));
  tree = record { few = few c e; hierarchy = hierarchy c f };
  falling = falling c (even c e) (hierarchy c f);
  few_moves = few_moves_lem c e;
}

pub returns-then-not-size_passes : goal.returns-then-not-size_passes
returns-then-not-size_passes c = size_stops (given c.args.t.now) (sym c.size_passes.ensures ∙ c.if-not-size_passes.true)

pub returns-in_err-judge_tables : goal.returns-in_err-judge_tables
returns-in_err-judge_tables c =
    let d = given c.args.t.now in
    let e = sym c.size_passes.ensures ∙ c.if-not-size_passes.false in
    let p = err_from_is_err_and c.from_residual.result c.from_residual.ensures.1 in
    rw (p.1, p.2)
    (front_decides (table_checks d) (move_checks d ++ (flip_flop_check d ∷ [])) c.in_err-judge_tables.ensures refl ∙ size_goes d e)

pub returns-in_err-judge_moves : goal.returns-in_err-judge_moves
returns-in_err-judge_moves c =
    let d = given c.args.t.now in
    let e = sym c.size_passes.ensures ∙ c.if-not-size_passes.false in
    let f = c.in_ok-judge_tables.ensures in
    let r = c.from_residual-in_err-judge_moves in
    let p = err_from_is_err_and r.result r.ensures.1 in
    rw (p.1, p.2)
    (front_decides (move_checks d) (flip_flop_check d ∷ []) (c.in_err-judge_moves.ensures (sound d e (ap is_refused (sym f)))) refl
    ∙ later_decide (table_checks d) (move_checks d ++ (flip_flop_check d ∷ [])) f refl
    ∙ size_goes d e)

pub returns : goal.returns
returns c =
    let d = given c.args.t.now in
    let e = sym c.size_passes.ensures ∙ c.if-not-size_passes.false in
    let f = c.in_ok-judge_tables.ensures in
    let s = sound d e (ap is_refused (sym f)) in
    c.judge_flip_flops.ensures s
    ∙ later_decide (move_checks d) (flip_flop_check d ∷ []) (c.in_ok-judge_moves.ensures s) refl
    ∙ later_decide (table_checks d) (move_checks d ++ (flip_flop_check d ∷ [])) f refl
    ∙ size_goes d e
