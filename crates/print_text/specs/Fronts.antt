-- A table with more rows than are kept is SIZE, and so is its front: the tables that are held print what the files' do.
use Rattle.std.specs.Prelude.{◌≡◌, refl, ℕ, ◌≤◌, ◌<◌, Bool, true, false, List, length, take, Err}
use Rattle.std.proofs.Common.{sym, ap, ◌∙◌, arith, length-take, take_all}
use Rattle.meaning.specs.Rows.{least}
use Rattle.meaning.specs.Tables.{Tables, state_count, move_count, timer_count, pair_count}
use Rattle.meaning.specs.Rules.{SizeRule}
use Rattle.meaning.proofs.Laws.Rules.{size_tells}
use Rattle.meaning.specs.Check.{checks, first_failing, verdict_of, verdict, size_passes}
use Rattle.meaning.specs.declared.Refusal.TheVariants as R
use Rattle.format.specs.NeedsTable.{needs_page, needs_known}
use Rattle.print_text.specs.declared.PageKind.{PageKind}
use Rattle.print_text.specs.declared.PageKind.TheVariants.{Text, Needs}
use Rattle.print_text.specs.Print.{page_verdict, printed_of}

-- each table fits its limit
pub record PrintedFits (c : Tables) : Type 0 where
  pub states : length c.states ≤ 512
  pub moves : length c.moves ≤ 5632
  pub presets : length c.presets ≤ 32
  pub timer_pairs : length c.timer_pairs ≤ 4096
  pub output_pairs : length c.output_pairs ≤ 4096

size_fits : (c : Tables) → SizeRule c → PrintedFits c
unfolding state_count move_count timer_count pair_count
size_fits c r = record {
  states = omega (arith, r.state_rows, r.few_states);
  moves = omega (arith, r.move_rows, r.few_moves);
  presets = omega (arith, r.few_timers);
  timer_pairs = omega (arith, r.timer_pair_rows, r.few_timer_pairs);
  output_pairs = omega (arith, r.output_pair_rows, r.few_output_pairs);
}

-- the front that is kept of each table, a row more than its limit
pub record FrontOf (k c : Tables) : Type 0 where
  pub scan_step : k.scan_step ≡ c.scan_step
  pub inputs : k.inputs ≡ c.inputs
  pub outputs : k.outputs ≡ c.outputs
  pub states : k.states ≡ take 514 c.states
  pub moves : k.moves ≡ take 5643 c.moves
  pub presets : k.presets ≡ take 33 c.presets
  pub timer_pairs : k.timer_pairs ≡ take 4098 c.timer_pairs
  pub output_pairs : k.output_pairs ≡ take 4098 c.output_pairs

short : {A : Type 0} (l m : List A) (n k : ℕ) → l ≡ take n m → k < n → length l ≤ k → length m ≤ k
short l m n k e h g = omega (arith, ap length e, length-take n m)

fits_back : (k c : Tables) → FrontOf k c → PrintedFits k → PrintedFits c
fits_back k c f g = record {
  states = short k.states c.states 514 512 f.states (omega arith) g.states;
  moves = short k.moves c.moves 5643 5632 f.moves (omega arith) g.moves;
  presets = short k.presets c.presets 33 32 f.presets (omega arith) g.presets;
  timer_pairs = short k.timer_pairs c.timer_pairs 4098 4096 f.timer_pairs (omega arith) g.timer_pairs;
  output_pairs = short k.output_pairs c.output_pairs 4098 4096 f.output_pairs (omega arith) g.output_pairs;
}

same_tables : (k c : Tables) → FrontOf k c → PrintedFits c → k ≡ c
same_tables k c f g = λ i. record {
  scan_step = f.scan_step i;
  inputs = f.inputs i;
  outputs = f.outputs i;
  states = (f.states ∙ take_all 514 c.states (omega (arith, g.states))) i;
  moves = (f.moves ∙ take_all 5643 c.moves (omega (arith, g.moves))) i;
  presets = (f.presets ∙ take_all 33 c.presets (omega (arith, g.presets))) i;
  timer_pairs = (f.timer_pairs ∙ take_all 4098 c.timer_pairs (omega (arith, g.timer_pairs))) i;
  output_pairs = (f.output_pairs ∙ take_all 4098 c.output_pairs (omega (arith, g.output_pairs))) i;
}

size_refused : (page : PageKind) (c : Tables) → size_passes c ≡ false → page_verdict page c ≡ Err R.Size
unfolding page_verdict verdict checks verdict_of first_failing least
size_refused Text c e = rw e
size_refused Needs c e = rw e

-- SIZE is one line, whatever the tables
size_line : (page : PageKind) (k c : Tables) (xs : List ℕ) → printed_of page k xs (Err R.Size) ≡ printed_of page c xs (Err R.Size)
unfolding printed_of needs_page needs_known
size_line Text k c xs = refl
size_line Needs k c xs = refl

-- the tables that are held have the files' verdict, and print the same
module _ (page : PageKind) (k c : Tables) (f : FrontOf k c) (xs : List ℕ) where
  abbrev SamePage : Type 0
  SamePage = (page_verdict page k ≡ page_verdict page c) × (printed_of page k xs (page_verdict page k) ≡ printed_of page c xs (page_verdict page c))

  by_size : (b d : Bool) → size_passes k ≡ b → size_passes c ≡ d → SamePage
  by_size true d p q = (let e : k ≡ c = same_tables k c f (fits_back k c f (size_fits k ((size_tells k).0 p))) in rw e (refl, refl))
  by_size false true p q = (let e : k ≡ c = same_tables k c f (size_fits c ((size_tells c).0 q)) in rw e (refl, refl))
  by_size false false p q = (size_refused page k p ∙ sym (size_refused page c q), rw (size_refused page k p, size_refused page c q) (size_line page k c xs))

  pub front_prints : SamePage
  front_prints = by_size (size_passes k) (size_passes c) refl refl
