-- Each check is told by `judge`: the first that refuses decides, and the last where the others pass.
use Rattle.std.proofs.Common.{◌∙◌, sym, rules, [], ◌∷◌}
use Rattle.std.proofs.lemmas.Result.{err_from_is_err_and}
use Rattle.tables.specs.Given.{given}
use Rattle.check_tables.specs.Verdicts.{hierarchy_check, initial_check, preset_check, timer_pair_check, output_pair_check, first_refuses, first_passes}
use Rattle.check_tables.proofs.judge_tables.Goals as goal

pub returns-in_err-judge : goal.returns-in_err-judge
returns-in_err-judge c =
    let d = given c.args.t.now in
    let p = err_from_is_err_and c.from_residual.result c.from_residual.ensures.1 in
    rw (p.1, p.2)
    (first_refuses (hierarchy_check d) (initial_check d ∷ preset_check d ∷ timer_pair_check d ∷ output_pair_check d ∷ []) (c.in_err-judge.ensures (hierarchy_check d) (sym c.state_count-states.ensures) (λ i h b p. search rules) (λ i h r p. search rules)))

pub returns-in_err-judge-2 : goal.returns-in_err-judge-2
returns-in_err-judge-2 c =
    let d = given c.args.t.now in
    let p = err_from_is_err_and c.from_residual-in_err-judge-2.result c.from_residual-in_err-judge-2.ensures.1 in
    rw (p.1, p.2)
    (first_refuses (initial_check d) (preset_check d ∷ timer_pair_check d ∷ output_pair_check d ∷ []) (c.in_err-judge-2.ensures (initial_check d) (sym c.state_count-states.ensures) (λ i h b p. search rules) (λ i h r p. search rules))
    ∙ first_passes (hierarchy_check d) (initial_check d ∷ preset_check d ∷ timer_pair_check d ∷ output_pair_check d ∷ []) (c.in_ok-judge.ensures (hierarchy_check d) (sym c.state_count-states.ensures) (λ i h b p. search rules) (λ i h r p. search rules)))

pub returns-in_err-judge-3 : goal.returns-in_err-judge-3
returns-in_err-judge-3 c =
    let d = given c.args.t.now in
    let p = err_from_is_err_and c.from_residual-in_err-judge-3.result c.from_residual-in_err-judge-3.ensures.1 in
    rw (p.1, p.2)
    (first_refuses (preset_check d) (timer_pair_check d ∷ output_pair_check d ∷ []) (c.in_err-judge-3.ensures (preset_check d) (sym c.timer_count.ensures) (λ i h b p. search rules) (λ i h r p. search rules))
    ∙ first_passes (initial_check d) (preset_check d ∷ timer_pair_check d ∷ output_pair_check d ∷ []) (c.in_ok-judge-2.ensures (initial_check d) (sym c.state_count-states.ensures) (λ i h b p. search rules) (λ i h r p. search rules))
    ∙ first_passes (hierarchy_check d) (initial_check d ∷ preset_check d ∷ timer_pair_check d ∷ output_pair_check d ∷ []) (c.in_ok-judge.ensures (hierarchy_check d) (sym c.state_count-states.ensures) (λ i h b p. search rules) (λ i h r p. search rules)))

pub returns-in_err-judge-4 : goal.returns-in_err-judge-4
returns-in_err-judge-4 c =
    let d = given c.args.t.now in
    let p = err_from_is_err_and c.from_residual-in_err-judge-4.result c.from_residual-in_err-judge-4.ensures.1 in
    rw (p.1, p.2)
    (first_refuses (timer_pair_check d) (output_pair_check d ∷ []) (c.in_err-judge-4.ensures (timer_pair_check d) (sym c.pair_count-timer_pairs.ensures) (λ i h b p. search rules) (λ i h r p. search rules))
    ∙ first_passes (preset_check d) (timer_pair_check d ∷ output_pair_check d ∷ []) (c.in_ok-judge-3.ensures (preset_check d) (sym c.timer_count.ensures) (λ i h b p. search rules) (λ i h r p. search rules))
    ∙ first_passes (initial_check d) (preset_check d ∷ timer_pair_check d ∷ output_pair_check d ∷ []) (c.in_ok-judge-2.ensures (initial_check d) (sym c.state_count-states.ensures) (λ i h b p. search rules) (λ i h r p. search rules))
    ∙ first_passes (hierarchy_check d) (initial_check d ∷ preset_check d ∷ timer_pair_check d ∷ output_pair_check d ∷ []) (c.in_ok-judge.ensures (hierarchy_check d) (sym c.state_count-states.ensures) (λ i h b p. search rules) (λ i h r p. search rules)))

pub returns : goal.returns
returns c =
    let d = given c.args.t.now in
    c.judge-5.ensures (output_pair_check d) (sym c.pair_count-output_pairs.ensures) (λ i h b p. search rules) (λ i h r p. search rules)
    ∙ first_passes (timer_pair_check d) (output_pair_check d ∷ []) (c.in_ok-judge-4.ensures (timer_pair_check d) (sym c.pair_count-timer_pairs.ensures) (λ i h b p. search rules) (λ i h r p. search rules))
    ∙ first_passes (preset_check d) (timer_pair_check d ∷ output_pair_check d ∷ []) (c.in_ok-judge-3.ensures (preset_check d) (sym c.timer_count.ensures) (λ i h b p. search rules) (λ i h r p. search rules))
    ∙ first_passes (initial_check d) (preset_check d ∷ timer_pair_check d ∷ output_pair_check d ∷ []) (c.in_ok-judge-2.ensures (initial_check d) (sym c.state_count-states.ensures) (λ i h b p. search rules) (λ i h r p. search rules))
    ∙ first_passes (hierarchy_check d) (initial_check d ∷ preset_check d ∷ timer_pair_check d ∷ output_pair_check d ∷ []) (c.in_ok-judge.ensures (hierarchy_check d) (sym c.state_count-states.ensures) (λ i h b p. search rules) (λ i h r p. search rules))
