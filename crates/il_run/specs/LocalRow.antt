-- A local array of n timer blocks as a row of them, and back; and a row taken apart into the blocks that are lent and the others, and put together again.
use Rattle.std.specs.Prelude.{◌≡◌, length, take, drop as dropped}
use Rattle.std.proofs.Math.Path.{refl}
use Rattle.std.proofs.Common.{subst}
use Prim.Native.Nat.{ℕ, zero, suc, ◌+◌}
use mathlib.Core.List.{List, [], ◌∷◌, ◌++◌}
use seplogic.Ra.Ura.{Ura}
use base.Fraction.{full_share}
use package.mir.Syntax.{Ty, ty_array}
use package.mir.Val.{Val}
use base.Logic.{ent, sep, guard}
use base.Fml.{Fml, GName, fsep, fat}
use types.Logic.{Logic, sem}
use types.Kit.{‵, ◌⊛◌, ◌$◌, ◌∵◌, !, qed, move, drop, use1, use2, split, check, rewrite, fsplit, fjoin, feq_i, fpick, fpack, frame, done}
use types.SemTy.{cells}
use types.Share.{arr_parts}
use denote.RattleType.{RattleType}
use denote.Laws.{Is, shows}
use denote.Memory.{mem, shares, part_at, part_of, cell_at}
use denote.Array.{Array, array_vals, Array-Tells, Array-Makes}
use denote.ArrayMemory.{Array-apart, Array-whole}
use denote.Index.{row, whole_out, whole_in}
use denote.Ref.{MutBor}
use denote.Steps.{owned, peeks, nothing, only}
use denote.Struct.Laws as LL
use Rattle.meaning.specs.declared.Block.{Block}
use Rattle.meaning.specs.contracts.Block as T
use Rattle.meaning.proofs.Block.TheLaws as T'

abbrev pub RowOf : ℕ → RattleType
RowOf n = Array T.the_row n

abbrev pub vals : List Block → List Val
vals = array_vals (LL.vals T.the_type T'.the_laws)

abbrev pub row_ty : ℕ → Ty
row_ty n = ty_array T'.mir n

-- blocks from an offset on
abbrev pub Blocks : List Block → ℕ → ℕ → Fml
Blocks xs l o = cells (mem T.the_row) xs l o

-- the offset after n blocks
abbrev pub far : ℕ → ℕ → ℕ
far zero o = o
far (suc n) o = far n (o + (mem T.the_row).size)

abbrev pub x_row : ℕ → GName → List Block → MutBor (List Block)
x_row l δ ys = record { ref_ptr = (l, 0); ghost_name = δ; now = ys }

module _ {M : Type 1} {𝓤 : Ura M} (𝓛 : Logic 𝓤) where
  open 𝓛 use {H}

  -- an array is a row, and a row of n is an array
  pub rowed : (n : ℕ) (xs : List Block) (l : ℕ) → Is (RowOf n) xs (vals xs) → ent 𝓤 (H.at full_share (row_ty n) l 0 (only (vals xs))) (sem 𝓛 (Blocks xs l 0))
  unfolding part_of
  rowed n xs l is =
      qed 𝓛 (‵ (fat full_share (row_ty n) l 0 (only (vals xs))) ∷ []) ∵ use1 𝓛 (‵ (cell_at full_share (RowOf n).mir (vals xs) l 0)) (𝓛.laws.at_raw full_share (row_ty n) l 0 (only (vals xs))) $
      owned ! (RowOf n) (Is (RowOf n)) (Array-Makes 𝓛 T.the_row (LL.makes T.the_type T'.the_plain 𝓛) n) xs (vals xs) is $ move ! (1 ∷ 0 ∷ []) $ fjoin ! $
      fpack ! (List Val) (λ vs. fsep (cell_at full_share (RowOf n).mir vs l 0) ((RowOf n).own_val xs vs)) (vals xs) $
      use1 𝓛 (‵ ((arr_parts (shares T.the_row) n).part full_share xs l 0)) (Array-apart 𝓛 T.the_row full_share tt n xs l 0) $ fsplit ! $ drop ! $
      use1 𝓛 (‵ (Blocks xs l 0)) (whole_in 𝓛 T.the_row xs l 0) $ done !

  pub unrowed : (n : ℕ) (xs : List Block) (l : ℕ) → length xs ≡ n → ent 𝓤 (sem 𝓛 (Blocks xs l 0)) (guard 𝓤 (Is (RowOf n) xs (vals xs)) (H.at full_share (row_ty n) l 0 (only (vals xs))))
  unfolding part_of
  unrowed n xs l e =
      qed 𝓛 (‵ (Blocks xs l 0) ∷ []) ∵ use1 𝓛 (‵ (row T.the_row full_share xs l 0)) (whole_out 𝓛 T.the_row xs l 0) $ feq_i ! ℕ (length xs) n e $ fjoin ! $
      use1 𝓛 (‵ (part_at (RowOf n) full_share xs l 0)) (Array-whole 𝓛 T.the_row full_share n xs l 0) $ fpick ! (λ vs. fsplit ! $ move ! (1 ∷ []) $
      peeks ! (RowOf n) (Is (RowOf n)) (shows 𝓛 (RowOf n)) xs vs (λ is. drop ! $
      rewrite ! 0 (λ (us : List Val). ‵ (cell_at full_share (RowOf n).mir us l 0)) (Array-Tells T.the_row (LL.vals T.the_type T'.the_laws) (LL.tells T.the_type T'.the_laws) n xs vs is) refl $
      use1 𝓛 (‵ (fat full_share (row_ty n) l 0 (only (vals xs)))) (𝓛.laws.raw_at full_share (row_ty n) l 0 (only (vals xs))) $
      check ! (subst (Is (RowOf n) xs) (Array-Tells T.the_row (LL.vals T.the_type T'.the_laws) (LL.tells T.the_type T'.the_laws) n xs vs is) is) $ done !))

  -- the first n of a row and the others
  pub apart : (n : ℕ) (xs : List Block) (l o : ℕ) → ent 𝓤 (sem 𝓛 (Blocks xs l o)) (sep 𝓤 (sem 𝓛 (Blocks (take n xs) l o)) (sem 𝓛 (Blocks (dropped n xs) l (far n o))))
  apart zero xs l o = qed 𝓛 (‵ (Blocks xs l o) ∷ []) ∵ nothing ! $ frame ! $ done !
  apart (suc n) [] l o = qed 𝓛 (‵ (Blocks [] l o) ∷ []) ∵ nothing ! $ frame ! $ done !
  apart (suc n) (x ∷ xs) l o =
      let p = o + (mem T.the_row).size in
      qed 𝓛 (‵ (Blocks (x ∷ xs) l o) ∷ []) ∵ fsplit ! $ move ! (1 ∷ []) $ use1 𝓛 (‵ (Blocks (take n xs) l p) ⊛ ‵ (Blocks (dropped n xs) l (far n p))) (apart n xs l p) $ split ! $
      move ! (2 ∷ 0 ∷ []) $ fjoin ! $ frame ! $ done !

  pub together : (ys zs : List Block) (l o : ℕ) → ent 𝓤 (sep 𝓤 (sem 𝓛 (Blocks ys l o)) (sem 𝓛 (Blocks zs l (far (length ys) o)))) (sem 𝓛 (Blocks (ys ++ zs) l o))
  together [] zs l o = qed 𝓛 (‵ (Blocks [] l o) ∷ ‵ (Blocks zs l o) ∷ []) ∵ drop ! $ done !
  together (y ∷ ys) zs l o =
      let p = o + (mem T.the_row).size in
      qed 𝓛 (‵ (Blocks (y ∷ ys) l o) ∷ ‵ (Blocks zs l (far (length ys) p)) ∷ []) ∵ fsplit ! $ move ! (1 ∷ 2 ∷ []) $ use2 𝓛 (‵ (Blocks (ys ++ zs) l p)) (together ys zs l p) $
      move ! (1 ∷ 0 ∷ []) $ fjoin ! $ done !
