-- Every valid state has a controller that stands for it, in which the chart's program runs.
use Rattle.std.specs.Prelude.{◌≡◌, ◌≢◌, false, not, List, length, replicate, eqb}
use Rattle.std.proofs.Math.Path.{refl, sym, ap}
use Rattle.std.proofs.Common.{◌∙◌, inl, inr, ne_eqb}
use Prim.Native.Nat.{ℕ, zero, suc, ◌+◌, ◌*◌, ◌-◌, ◌^◌, ◌≤◌, ◌<◌, min}
use native.Mathlib.Omega.{arith}
use Rattle.std.proofs.Math.Decide.{ℕ_discrete, dec_le}
use Rattle.std.proofs.Math.Bool.{and-false}
use Rattle.std.proofs.Math.ListN.{length-replicate, get_or-eq_default}
use Rattle.std.proofs.lemmas.List.{get_or-replicate}
use Rattle.meaning.specs.Rows.{table}
use Rattle.meaning.proofs.Laws.Rows.{which, length_table, get_d_table}
use Rattle.meaning.specs.Tables.{Tables, state_count, timer_count, preset}
use Rattle.meaning.specs.Hierarchy.{is_leaf, timer_runs}
use Rattle.meaning.specs.Layout.{group_width, group_first, flip_flop_count, code}
use Rattle.meaning.proofs.Laws.Layout.{bits_written, written_length, written_outside, written_read, group_apart, group_fits}
use Rattle.meaning.specs.Rules.{Rules}
use Rattle.meaning.specs.Machine.{State, remembered, timer_value, active_leaf, Valid}
use Rattle.meaning.specs.Scan.{Controller, blank, block_at, flip_flop_on, elapsed, ton, with_in, with_pt, ValidController}
use Rattle.meaning.specs.Written.{program}
use Rattle.meaning.proofs.Laws.Programs.{program_bytes, program_blocks, program_time}
use Rattle.meaning.specs.Stands.{code_at, next_call, StandsFor}
use Rattle.meaning.proofs.Laws.Tests.{valid_leads, sub_fits}
use Rattle.meaning.proofs.Laws.Stores.{same_code, AllBits, written_bits}
use Rattle.meaning.specs.declared.Block.{Block}

-- ---- the flip-flops

-- the groups of the first n states written from o on, each at the code of what its state remembers
unfoldable pub groups_written : Tables → List ℕ → ℕ → ℕ → List ℕ → List ℕ
groups_written c m o zero fs = fs
groups_written c m o (suc a) fs = bits_written (groups_written c m o a fs) (o + group_first c a) (group_width c a) (code c (remembered m a))

module _ (c : Tables) (m : List ℕ) (o : ℕ) where
  groups_length : (n : ℕ) (fs : List ℕ) → length (groups_written c m o n fs) ≡ length fs
  unfolding groups_written
  groups_length zero fs = refl
  groups_length (suc a) fs = written_length (groups_written c m o a fs) (o + group_first c a) (group_width c a) (code c (remembered m a)) ∙ groups_length a fs

  groups_bits : (n : ℕ) (fs : List ℕ) → AllBits fs → AllBits (groups_written c m o n fs)
  unfolding groups_written
  groups_bits zero fs B = B
  groups_bits (suc a) fs B = written_bits (groups_written c m o a fs) (o + group_first c a) (group_width c a) (code c (remembered m a)) (groups_bits a fs B)

  -- what stands before them is kept
  groups_before : (n : ℕ) (fs : List ℕ) (i : ℕ) → i < o → flip_flop_on (groups_written c m o n fs) i ≡ flip_flop_on fs i
  unfolding groups_written
  groups_before zero fs i h = refl
  groups_before (suc a) fs i h = written_outside (groups_written c m o a fs) (o + group_first c a) (group_width c a) (code c (remembered m a)) i (inl (omega arith)) ∙ groups_before a fs i h

  -- and each is read back
  groups_read : ((a : ℕ) → is_leaf c a ≡ false → code c (remembered m a) < 2 ^ group_width c a) → (n : ℕ) (fs : List ℕ) → o + group_first c n ≤ length fs
      → (a : ℕ) → a < n → is_leaf c a ≡ false → code_at (groups_written c m o n fs) (o + group_first c a) (group_width c a) ≡ code c (remembered m a)
  unfolding groups_written group_first
  groups_read f zero fs h a l e = absurd (omega arith)
  groups_read f (suc b) fs h a l e =
      let gs = groups_written c m o b fs in
      elim (ℕ_discrete a b) [
        | yes z ↦ rw z (written_read gs (o + group_first c b) (group_width c b) (code c (remembered m b)) (f b (rw z at e)) (omega (arith, groups_length b fs)))
        | no z ↦ same_code (bits_written gs (o + group_first c b) (group_width c b) (code c (remembered m b))) gs (o + group_first c a) (o + group_first c a) (group_width c a)
            (λ i u. written_outside gs (o + group_first c b) (group_width c b) (code c (remembered m b)) (o + group_first c a + i) (inl (omega (arith, group_apart c a b (omega arith)))))
            ∙ groups_read f b fs (omega arith) a (omega arith) e
      ]

-- ---- the blocks

-- the block whose next call gives the timer's value: it was called one scan step ago, or not at all
unfoldable pub block_for : Tables → State → ℕ → Block
block_for c s t = let v = timer_value s.timers t in record { input = false; pt = 0; et = min (v - c.scan_step) (preset c t); q = false; last = not (eqb v 0) }

-- a whole number of scan steps is none or at least one
some_step_lem : (k d v : ℕ) → v ≡ k * d → v ≢ 0 → d ≤ v
some_step_lem zero d v e n = absurd (n (omega arith))
some_step_lem (suc k) d v e n = omega arith

block_next : (c : Tables) (s : State) → Valid c s → (t : ℕ) → 1 ≤ t → t ≤ timer_count c → (next_call c s t (block_for c s t)).et ≡ min (timer_value s.timers t) (preset c t)
unfolding next_call ton with_pt with_in elapsed block_for
block_next c s ok t l u =
    let v = timer_value s.timers t in
    elim (ℕ_discrete v 0) [
      | yes z ↦ rw (z, and-false (timer_runs c t (active_leaf c s.memory))) (omega arith)
      | no n ↦ elim (which (timer_runs c t (active_leaf c s.memory))) [
        | inl r ↦ (let w = ok.whole t l u in rw (r, ne_eqb v 0 n) (omega (arith, some_step_lem w.0 c.scan_step v w.2 n)))
        | inr r ↦ absurd (n (ok.idle t l u r))
      ]
    ]

-- ---- the controller

-- the controller of a state: its flip-flops, their working copies, and its blocks
unfoldable pub controller_for : Tables → State → Controller
controller_for c s = let m = s.memory in
    let n = state_count c in
    record { flip_flops = groups_written c m (flip_flop_count c) n (groups_written c m 0 n (replicate (flip_flop_count c + flip_flop_count c) 0)); blocks = table (block_for c s) 1 (timer_count c) }

module _ (c : Tables) (R : Rules c) (s : State) (ok : Valid c s) where
  coded_fits : (a : ℕ) → is_leaf c a ≡ false → code c (remembered s.memory a) < 2 ^ group_width c a
  coded_fits a e = sub_fits c R a (remembered s.memory a) e (valid_leads c R s ok a e)

  abbrev none : List ℕ
  none = replicate (flip_flop_count c + flip_flop_count c) 0

  abbrev lower : List ℕ
  lower = groups_written c s.memory 0 (state_count c) none

  lower_length : length lower ≡ flip_flop_count c + flip_flop_count c
  lower_length = groups_length c s.memory 0 (state_count c) none ∙ length-replicate {A = ℕ} (flip_flop_count c + flip_flop_count c) 0

  none_bits : AllBits none
  none_bits b = elim (dec_le (suc b) (flip_flop_count c + flip_flop_count c)) [
    | yes h ↦ rw (get_or-replicate {A = ℕ} (flip_flop_count c + flip_flop_count c) b 0 0 h) (omega arith)
    | no h ↦ rw (get_or-eq_default none 0 {n = b} (omega (arith, length-replicate {A = ℕ} (flip_flop_count c + flip_flop_count c) 0))) (omega arith)
  ]

  -- it stands for the state
  pub controller_stands : StandsFor c (controller_for c s) s
  unfolding controller_for flip_flop_count
  controller_stands = record {
    flips = λ a h e. same_code _ lower (0 + group_first c a) (0 + group_first c a) (group_width c a)
        (λ i u. groups_before c s.memory (flip_flop_count c) (state_count c) lower (0 + group_first c a + i) (omega (arith, group_fits c a h)))
        ∙ groups_read c s.memory 0 coded_fits (state_count c) none (omega (arith, length-replicate {A = ℕ} (flip_flop_count c + flip_flop_count c) 0)) a h e;
    copies = λ a h e. groups_read c s.memory (flip_flop_count c) coded_fits (state_count c) lower (omega (arith, lower_length)) a h e;
    blocks = λ t l u. ap (λ b. (next_call c s t b).et) (block_there t l u) ∙ block_next c s ok t l u;
  }
    where
      block_there : (t : ℕ) → 1 ≤ t → t ≤ timer_count c → block_at (table (block_for c s) 1 (timer_count c)) t ≡ block_for c s t
      block_there t l u = unfold block_at in (get_d_table (block_for c s) 1 (timer_count c) (t - 1) blank (omega arith) ∙ ap (block_for c s) (omega arith))

  -- and the run accepts it
  pub controller_valid : ValidController (program c) (controller_for c s)
  unfolding controller_for
  controller_valid = record {
    bits = λ b h. groups_bits c s.memory (flip_flop_count c) (state_count c) lower (groups_bits c s.memory 0 (state_count c) none none_bits) b;
    size = groups_length c s.memory (flip_flop_count c) (state_count c) lower ∙ lower_length ∙ sym (program_bytes c R);
    blocks = length_table (block_for c s) 1 (timer_count c) ∙ sym (program_blocks c);
    times = λ t r h.
        let l : t < timer_count c = omega (arith, program_blocks c) in
        rw (program_time c t r l, get_d_table (block_for c s) 1 (timer_count c) t blank l) (short t);
  }
    where
      short : (t : ℕ) → (block_for c s (1 + t)).et ≤ preset c (suc t)
      short t = unfold block_for in (let e : 1 + t ≡ suc t = omega arith in rw e (omega arith))
