-- Laws of the stores and rungs of a chart.
use Rattle.std.specs.Prelude.{◌≡◌, ◌≢◌, true, false, length, eqb}
use Rattle.std.proofs.Math.Path.{refl}
use Rattle.std.proofs.Common.{sym, ap, ◌∙◌, arith, length-append, ne_eqb}
use Rattle.std.proofs.Math.Logic.{inl, inr}
use Rattle.std.proofs.lemmas.Bool.{false≢true}
use mathlib.Core.List.{List, [], ◌∷◌, ◌++◌, flat_map, append-nil}
use Prim.Native.Nat.{ℕ, zero, suc, ◌+◌, ◌<◌, min}
use Rattle.meaning.proofs.Laws.Rows.{which}
use Rattle.meaning.specs.Tables.{Tables, state_count, initial, source, target, mark}
use Rattle.meaning.specs.Hierarchy.{is_leaf}
use Rattle.meaning.specs.Layout.{flip_flop_count}
use Rattle.meaning.specs.Rules.{SubState}
use Rattle.meaning.proofs.Laws.Tree.{initial_sub, initial_leaf}
use Rattle.meaning.specs.Programs.{Test, load_of, chain_of, body_of, rung_of}
use Rattle.meaning.specs.Written.{group_bits, path_bits, bit_store, literal_tests, state_tests, chain, or_body, and_body, initial_stores, stores_from, move_stores, rung_with, move_rungs, copy_rungs}
use Rattle.meaning.specs.declared.Operand.TheVariants.{Mx}
use Rattle.meaning.specs.declared.Operator.{Operator}
use Rattle.meaning.specs.declared.Operator.TheVariants.{Ld, St}
use Rattle.format.specs.Text.{bytes, decimal, line, operator_text}
use Rattle.layout.specs.LaidLaws.{total_is}
use Rattle.layout.specs.declared.Layout.{Layout}
use Rattle.write_lines.specs.Fit.{PutIfRoom}
use Rattle.write_spelling.specs.Blocks.{on_block}
use Rattle.write_operators.specs.declared.Way.TheVariants.{Store}
use Rattle.write_bits.specs.declared.Spot.{Spot}
use Rattle.write_bits.specs.Sent.{lines, TestsPut, bit_at, LaidTables}
use Rattle.write_bits.specs.SentLaws.{group_stored, path_stored}
use Rattle.write_bodies.specs.PairLaws.{and_lines}
use Rattle.write_rungs.specs.Rungs.{stores_of, is_nil}

-- ---- stores

module _ {c : Tables} {y : Layout} (d : LaidTables c y) where
  total : y.total ≡ flip_flop_count c
  total = total_is c y d.laid d.rules.size.few_states

  pub group_put : {l m : List ℕ} {q : Spot} {i : ℕ} (a s : ℕ) → TestsPut l (record { at = i; way = Store }) (group_bits c (bit_at y.total) a s) m q → PutIfRoom l i (lines (group_bits c (bit_store c) a s)) m q.at
  group_put a s x = rw (← group_stored c a s, ← total) x.put

  pub path_put : {l m : List ℕ} {q : Spot} {i : ℕ} (k s : ℕ) → TestsPut l (record { at = i; way = Store }) (path_bits c (bit_at y.total) k s) m q → PutIfRoom l i (lines (path_bits c (bit_store c) k s)) m q.at
  path_put k s x = rw (← path_stored c k s, ← total) x.put

  -- a leaf's initial sub-state is 0, and no other's is
  pub at_leaf : (k s : ℕ) → s < state_count c → initial c s ≡ 0 → initial_stores c k s ≡ []
  unfolding initial_stores
  at_leaf zero s h e = refl
  at_leaf (suc k) s h e = elim (which (is_leaf c s)) [
    | inl t ↦ rw t
    | inr f ↦ absurd ((initial_sub c d.rules s h f).not_root e)
  ]

  pub at_super : (k s : ℕ) → s < state_count c → initial c s ≢ 0
      → SubState c s (initial c s) × (initial_stores c (suc k) s ≡ group_bits c (bit_store c) s (initial c s) ++ initial_stores c k (initial c s))
  unfolding initial_stores
  at_super k s h n = elim (which (is_leaf c s)) [
    | inl t ↦ absurd (n (initial_leaf c d.rules s h t))
    | inr f ↦ (initial_sub c d.rules s h f, rw f)
  ]

-- mark 1 stores nothing at or below the target
pub no_stores : (c : Tables) (m t : ℕ) → m ≢ 0 → stores_from c m t ≡ []
unfolding stores_from
no_stores c zero t h = absurd (h refl)
no_stores c (suc m) t h = refl

-- a line is at least its LF
lines_some : (o : Operator) (is : List Operator) → length (lines (o ∷ is)) ≢ 0
unfolding lines flat_map line
lines_some o is e = omega (arith, rw (length-append (operator_text o ++ (10 ∷ [])) (lines is), length-append (operator_text o) (10 ∷ [])) at e)

-- the place after some lines, from 0 on, is 0 where there are none
pub none_measured : (is : List Operator) (r : ℕ) → r ≡ min (0 + length (lines is)) 18446744073709551615 → eqb r 0 ≡ is_nil is
unfolding lines flat_map
none_measured [] r e = rw e
none_measured (o ∷ is) r e = ne_eqb r 0 (λ z. let h = lines_some o is in omega arith)

-- ---- rungs

-- a line on a block
pub block_line_lem : {l m : List ℕ} {i r : ℕ} (w t : List ℕ) (n : ℕ) → PutIfRoom l i (w ++ (bytes "T" ++ (decimal n ++ line t))) m r → PutIfRoom l i (line (w ++ (bytes "T" ++ (decimal n ++ t)))) m r
block_line_lem w t n p = rw (on_block w t n) p

pub copy_lines : (c : Tables) (b : ℕ) → flat_map rung_of (copy_rungs c b) ≡ Ld (Mx (flip_flop_count c + b)) ∷ St (Mx b) ∷ []
unfolding flat_map rung_of copy_rungs rung_with and_body or_body chain body_of load_of
copy_lines c b = refl

rung_lines_lem : (ts : List Test) (is : List Operator) → is_nil is ≡ false → flat_map rung_of (rung_with (and_body ts) is) ≡ chain_of (chain ts) ++ is
unfolding flat_map rung_with rung_of
rung_lines_lem ts [] e = absurd (false≢true (sym e))
rung_lines_lem ts (o ∷ is) e = append-nil _ ∙ ap (λ l. l ++ (o ∷ is)) (and_lines ts)

no_rung : (ts : List Test) (is : List Operator) → is_nil is ≡ true → flat_map rung_of (rung_with (and_body ts) is) ≡ []
unfolding flat_map rung_with
no_rung ts [] e = refl
no_rung ts (o ∷ is) e = absurd (false≢true e)

module _ (c : Tables) (i : ℕ) where
  pub move_none : is_nil (stores_of c (target c i) (mark c i)) ≡ true → flat_map rung_of (move_rungs c i) ≡ []
  unfolding move_rungs move_stores
  move_none e = no_rung _ _ e

  pub move_lines : is_nil (stores_of c (target c i) (mark c i)) ≡ false
      → flat_map rung_of (move_rungs c i) ≡ chain_of (chain (state_tests c (source c i) ++ literal_tests c i)) ++ stores_of c (target c i) (mark c i)
  unfolding move_rungs move_stores
  move_lines e = rung_lines_lem _ _ e
