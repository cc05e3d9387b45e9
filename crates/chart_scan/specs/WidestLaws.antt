-- The moves of an accepted chart pass LITERAL too where there are as many inputs and timers as there may be.
use Rattle.std.specs.Prelude.{◌≡◌, refl, ℕ, ◌<◌, true, replicate, nat_abs}
use Rattle.std.proofs.Common.{arith}
use Rattle.std.proofs.lemmas.List.{length-replicate}
use borrow.Author.Tests.{leb-true, le-leb}
use Rattle.meaning.proofs.Laws.Rows.{and_l, and_r, and_both, every_yes, every_intro}
use Rattle.meaning.specs.Tables.{Tables, most_inputs, most_timers, move_count, timer_count, cell, literal}
use Rattle.meaning.specs.Literals.{Setting, kind_of, literals_hold}
use Rattle.meaning.specs.Check.{within_counts, may_precede, place_passes, literal_passes}
use Rattle.meaning.specs.Rules.{Rules}
use Rattle.meaning.proofs.Laws.Rules.{literal_tells}
use Rattle.meaning.specs.declared.Kind.{Kind}
use Rattle.meaning.specs.declared.Kind.TheVariants.{Unused, Input, Timer, Unknown}

-- the tables with so many
abbrev pub widest : Tables → Tables
widest c = record {
  scan_step = c.scan_step;
  inputs = most_inputs;
  outputs = c.outputs;
  states = c.states;
  moves = c.moves;
  presets = replicate most_timers 0;
  timer_pairs = c.timer_pairs;
  output_pairs = c.output_pairs;
}

pub widest_timers : (c : Tables) → timer_count (widest c) ≡ most_timers
unfolding timer_count
widest_timers c = length-replicate {A = ℕ} most_timers 0

module _ (c : Tables) (R : Rules c) (i : ℕ) (h : i < move_count c) where
  widest_within : (K : Kind) → within_counts c K ≡ true → within_counts (widest c) K ≡ true
  unfolding within_counts
  widest_within Unused e = e
  widest_within (Input n) e = le-leb n most_inputs (omega (arith, leb-true n c.inputs e, R.size.few_inputs))
  widest_within (Timer n) e = rw (widest_timers c) (le-leb n most_timers (omega (arith, leb-true n (timer_count c) e, R.size.few_timers)))
  widest_within Unknown e = e

  pub widest_passes : literal_passes (widest c) i ≡ true
  unfolding literal_passes place_passes may_precede literal cell
  widest_passes = every_intro (place_passes (widest c) i) 8 (λ k z.
      let K = kind_of (nat_abs (literal c i k)) in
      let e = every_yes (place_passes c i) 8 ((literal_tells c i).1 (R.literals i h)) k z in
      and_both _ _ (widest_within K (and_l _ _ e)) (and_r (within_counts c K) _ e))

-- what the literals of a move ask is the same
pub widest_holds : (c : Tables) (v : Setting) (i : ℕ) → literals_hold (widest c) v i ≡ literals_hold c v i
unfolding literals_hold literal cell
widest_holds c v i = refl
