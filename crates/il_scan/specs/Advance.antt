-- The words from a place on, one at a time.
use Rattle.std.specs.Prelude.{◌≡◌, ℕ, zero, suc, ◌+◌, ◌≤◌, ◌<◌, true, false, cond}
use Rattle.std.specs.Prelude.{List, length, get_or, set, drop, replicate}
use Rattle.std.proofs.Math.Path.{refl}
use Rattle.std.proofs.Common.{◌∙◌, arith, drop_of_length-le}
use Rattle.std.proofs.Math.Decide.{dec_le}
use Rattle.std.proofs.Math.Numerals.{add-one}
use Rattle.std.proofs.lemmas.Bool.{false≢true}
use Rattle.std.proofs.lemmas.List.{length-replicate}
use Rattle.std.proofs.Math.Seq.{drop-cons}
use borrow.Author.Tests.{lt-ltb, le-ltb}
use Rattle.format.specs.Decode.{decoded}
use Rattle.il_instruction.specs.declared.Registers.{Registers}
use Rattle.meaning.specs.declared.Block.{Block}
use Rattle.meaning.specs.Scan.{blank}
use Rattle.il_scan.specs.declared.Stop.{Stop}
use Rattle.il_called.specs.Due.{due}
use Rattle.il_instruction.specs.Effect.{running, flip_flops_after}
use Rattle.il_block.specs.Called.{called_with}
use Rattle.il_scan.specs.Run.{Reached, stopped_at, ended_at, advanced, resumed}
use Rattle.il_scan.specs.Run.{ScanPoint, calling, one_word, whole_scan}

module _ (x c : ℕ) (ws : List ℕ) (at : ℕ) (s : Registers) (fs : List ℕ) where
  pub advance_end : length ws ≤ at
      → advanced x c (drop at ws) at s fs ≡ record { stop = ended_at at s; flip_flops = fs }
  unfolding advanced
  advance_end h = rw (drop_of_length-le ws {i = at} h)

  pub advance_due : at < length ws → due c (decoded (get_or ws at 0)) < c
      → advanced x c (drop at ws) at s fs
      ≡ record { stop = stopped_at (at + 1) (due c (decoded (get_or ws at 0))) s; flip_flops = fs }
  unfolding advanced
  advance_due h g = rw (add-one, drop-cons ws at 0 h, advanced, lt-ltb (due c (decoded (get_or ws at 0))) c g)

  pub advance_on : at < length ws → c ≤ due c (decoded (get_or ws at 0))
      → advanced x c (drop at ws) at s fs
      ≡ advanced x c (drop (at + 1) ws) (at + 1) (running x fs (decoded (get_or ws at 0)) s)
      (flip_flops_after (decoded (get_or ws at 0)) s.result fs)
  unfolding advanced
  advance_on h g = rw (add-one, drop-cons ws at 0 h, advanced, le-ltb (due c (decoded (get_or ws at 0))) c g)

-- what a caller has to know of it: where a CAL is due its block is there, and the scan is further on
pub record StopKnown (c n at : ℕ) (r : Stop) : Type 0 where
  pub block : r.due ≡ true → r.block < c
  pub further : r.due ≡ true → at < r.at
  pub within : r.due ≡ true → r.at ≤ n
  pub input : r.input ≡ r.running.input
  pub pt : r.pt ≡ r.running.pt

-- the scan from a place on, by way of the next CAL
abbrev pub onward : ℕ → ℕ → List ℕ → List Block → Reached → ScanPoint
onward d x ws bs r = cond r.stop.due
    (whole_scan d x (drop r.stop.at ws)
    (calling d r.stop.block (record { s = r.stop.running; flip_flops = r.flip_flops; bs = bs })))
    (record { s = r.stop.running; flip_flops = r.flip_flops; bs = bs })

module _ (d x : ℕ) (ws : List ℕ) (bs : List Block) where
  abbrev Leads : ℕ → Registers → List ℕ → Reached → Type 0
  Leads at s fs r = StopKnown (length bs) (length ws) at r.stop
      × (whole_scan d x (drop at ws) (record { s = s; flip_flops = fs; bs = bs }) ≡ onward d x ws bs r)

  leads_end : (at : ℕ) (s : Registers) (fs : List ℕ) → length ws ≤ at
      → Leads at s fs (record { stop = ended_at at s; flip_flops = fs })
  unfolding whole_scan
  leads_end at s fs h = (
    record {
      block = λ e. absurd (false≢true e);
      further = λ e. absurd (false≢true e);
      within = λ e. absurd (false≢true e);
      input = refl;
      pt = refl;
    },
    rw (drop_of_length-le ws {i = at} h),
  )

  leads_due : (at : ℕ) (s : Registers) (fs : List ℕ) → at < length ws
      → due (length bs) (decoded (get_or ws at 0)) < length bs
      → Leads at s fs
      (record { stop = stopped_at (at + 1) (due (length bs) (decoded (get_or ws at 0))) s; flip_flops = fs })
  unfolding whole_scan one_word
  leads_due at s fs h g = (
    record { block = λ e. g; further = λ e. omega arith; within = λ e. omega arith; input = refl; pt = refl },
    rw (
      add-one,
      drop-cons ws at 0 h,
      whole_scan,
      one_word,
      lt-ltb (due (length bs) (decoded (get_or ws at 0))) (length bs) g,
    ),
  )

  leads_on : (at : ℕ) (s : Registers) (fs : List ℕ) (r : Reached) → at < length ws
      → length bs ≤ due (length bs) (decoded (get_or ws at 0))
      → Leads (at + 1) (running x fs (decoded (get_or ws at 0)) s)
      (flip_flops_after (decoded (get_or ws at 0)) s.result fs) r
      → Leads at s fs r
  unfolding whole_scan one_word
  leads_on at s fs r h g l = (
    record {
      block = l.0.block;
      further = λ e. omega (arith, l.0.further e);
      within = l.0.within;
      input = l.0.input;
      pt = l.0.pt;
    },
    rw (
      drop-cons ws at 0 h,
      whole_scan,
      one_word,
      le-ltb (due (length bs) (decoded (get_or ws at 0))) (length bs) g,
    ) (rw add-one at l.1),
  )

  by_fuel : (n at : ℕ) (s : Registers) (fs : List ℕ) → length ws ≤ at + n
      → Leads at s fs (advanced x (length bs) (drop at ws) at s fs)
  by_fuel zero at s fs h = rw (advance_end x (length bs) ws at s fs (omega arith)) (leads_end at s fs (omega arith))
  by_fuel (suc n) at s fs h = elim (dec_le (length ws) at) [
    | yes e ↦ rw (advance_end x (length bs) ws at s fs e) (leads_end at s fs e)
    | no e ↦ elim (dec_le (length bs) (due (length bs) (decoded (get_or ws at 0)))) [
      | yes f ↦ rw (advance_on x (length bs) ws at s fs (omega arith) f)
          (leads_on at s fs _ (omega arith) f (by_fuel n (at + 1) _ _ (omega arith)))
      | no f ↦ rw (advance_due x (length bs) ws at s fs (omega arith) (omega arith))
          (leads_due at s fs (omega arith) (omega arith))
    ]
  ]

  -- the scan from a place on is the words up to the next CAL, the CAL and the scan from there on
  pub advance_leads : (at : ℕ) (s : Registers) (fs : List ℕ)
      → Leads at s fs (advanced x (length bs) (drop at ws) at s fs)
  advance_leads at s fs = by_fuel (length ws) at s fs (omega arith)

-- whatever the blocks hold
pub advance_goes : (x c : ℕ) (ws : List ℕ) (at : ℕ) (s : Registers) (fs : List ℕ)
    → StopKnown c (length ws) at (advanced x c (drop at ws) at s fs).stop
advance_goes x c ws at s fs = rw (length-replicate c blank) at (advance_leads 0 x ws (replicate c blank) at s fs).0

-- a turn of the scan's loop: from s and fs at a place to t and fs', with c blocks
pub record ScanTurn (d x c : ℕ) (ws : List ℕ) (bs : List Block) (at : ℕ) (s : Registers) (fs : List ℕ) (t : Stop)
    (fs' : List ℕ) : Type 0 where
  pub count : length bs ≡ c
  pub stop : t ≡ (advanced x c (drop at ws) at s fs).stop
  pub flip_flops : fs' ≡ (advanced x c (drop at ws) at s fs).flip_flops
  pub goes : StopKnown c (length ws) at t

module _ {d x c : ℕ} {ws : List ℕ} {bs : List Block} {at : ℕ} {s : Registers} {fs : List ℕ} {t : Stop}
    {fs' : List ℕ} (h : ScanTurn d x c ws bs at s fs t fs') where
  leads : whole_scan d x (drop at ws) (record { s = s; flip_flops = fs; bs = bs })
      ≡ onward d x ws bs (record { stop = t; flip_flops = fs' })
  leads = rw (h.stop, h.flip_flops) (rw h.count at (advance_leads d x ws bs at s fs).1)

  -- with no CAL the scan is over
  pub turn_last : t.due ≡ false
      → whole_scan d x (drop at ws) (record { s = s; flip_flops = fs; bs = bs })
      ≡ record { s = t.running; flip_flops = fs'; bs = bs }
  turn_last e = leads ∙ rw e

  -- else it goes on behind the CAL
  pub turn_on : (b : Block) (p : Stop) → t.due ≡ true
      → b ≡ called_with d t.input t.pt (get_or bs t.block blank) → p ≡ resumed t b.q
      → whole_scan d x (drop at ws) (record { s = s; flip_flops = fs; bs = bs })
      ≡ whole_scan d x (drop p.at ws) (record { s = p.running; flip_flops = fs'; bs = set bs t.block b })
  unfolding resumed calling
  turn_on b p e f g = leads ∙ rw (e, g, f, h.goes.input, h.goes.pt)
