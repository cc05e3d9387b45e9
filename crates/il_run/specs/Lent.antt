-- A `&κ mut [T]` that is lent on for a lifetime κ' of a call, as a `&κ' mut [T]` or as a `&κ' [T]`, and comes back. Of the crate it
-- says nothing. Its machine value has the count m, that of the list on entry, all the time.
--     LentAgain, SharedOut     what the holder keeps meanwhile
--     lends_again, comes_back  lent as `&mut`, and back at the last list
--     shares_out, comes_home   lent as `&`, and back as it was. shares_out_free is shares_out of a type that is Copy, with no token
use Rattle.std.specs.Prelude.{◌≡◌, refl, ℕ, ◌+◌, List, [], ◌∷◌, length}
use Rattle.std.proofs.Common.{sym, ap, subst}
use seplogic.Ra.Ura.{Ura}
use base.Fraction.{full_share}
use mir.Syntax.{Lifetime}
use mir.Val.{Val}
use base.Logic.{ent, sep, ex}
use base.Fml.{Lft, GName, Share, Fml, Incl, fsep, fhide, flft, fdead, fobs, fauth, flent, fobor}
use ghost.Rules.{Toks, span}
use types.Logic.{Logic, sem, lfts}
use types.Kit.{‵, raw, ◌⊛◌, some, later, ◌$◌, ◌∵◌, !, qed, move, use1, use2, use3, drop, split, pick, rewrite, fsplit, fjoin, feq_i, frame, await, updating, now as at_once, show, done}
use types.Tokens.{lent_back}
use types.SemTy.{cells, Arr}
use types.Share.{arr_parts}
use denote.RattleType.{RattleType}
use denote.Copied.{Copied}
use denote.Lends.{Lent, Lent-nothing, Lent-both, Lent-map}
use denote.Ref.{Bor, MutBor}
use denote.Shares.{Shares}
use denote.Shadow.{pure_l, pure_i}
use denote.Memory.{mem, part_at, shared_of, shares}
use denote.Slice.{slice_val, MutSlice, ShrSlice, heres, Room, finally, shr_slice_at, mut_slice_at, coded_holeys, elements_shared}
use denote.Lend.{Held, lends_slice, slice_back, lends_shr_slice}
use denote.Index.{row, whole_out, whole_in, opens_slice, closes_slice}

-- the elements of a row are lent with no token, where R is Copy
module _ (R : RattleType) {M : Type 1} {𝓤 : Ura M} (𝓛 : Logic 𝓤) (c : Copied 𝓛 R) where
  parts_lent : (xs : List R.Denot) (b o : ℕ) → Lent 𝓛 (row R full_share xs b o) (elements_shared R xs b o)
  parts_lent [] b o = Lent-nothing 𝓛
  parts_lent (x ∷ xs) b o = Lent-both 𝓛 (part_at R full_share x b o) (row R full_share xs b (o + (mem R).size)) (shared_of R x b o) (elements_shared R xs b (o + (mem R).size)) (c.lends full_share x b o) (parts_lent xs b (o + (mem R).size))

  row_lent : (xs : List R.Denot) (b o : ℕ) → Lent 𝓛 ((arr_parts (shares R) (length xs)).part full_share xs b o) (elements_shared R xs b o)
  row_lent xs b o = Lent-map 𝓛 ((arr_parts (shares R) (length xs)).part full_share xs b o) (row R full_share xs b o) (elements_shared R xs b o)
      (qed 𝓛 (‵ ((arr_parts (shares R) (length xs)).part full_share xs b o) ∷ []) ∵ fsplit ! $ drop ! $ done !)
      (qed 𝓛 (‵ (row R full_share xs b o) ∷ []) ∵ feq_i ! ℕ (length xs) (length xs) refl $ fjoin ! $ done !) (parts_lent xs b o)

module _ (R : RattleType) (κ κ' : Lft) (q : Share) (γ : GName) (b o m : ℕ) where
  abbrev at_list : GName → List R.Denot → MutBor (List R.Denot)
  at_list δ ys = record { ref_ptr = (b, o); ghost_name = δ; now = ys }

  abbrev shr_list : List R.Denot → Bor (List R.Denot)
  shr_list ys = record { ref_ptr = (b, o); now = ys }

  abbrev Open : List R.Denot → Fml
  Open ys = fsep (fobor κ q (Held R (length ys) b o γ)) (fsep (fobs γ ((coded_holeys R).code (heres R ys))) (fauth γ ((coded_holeys R).code (heres R ys))))

  abbrev pub LentAgain : GName → List R.Denot → Fml
  LentAgain γ₁ ys = fsep (flent κ' (Held R (length ys) b o γ₁)) (Open ys)

  abbrev pub SharedOut : List R.Denot → Fml
  SharedOut ys = fsep (flent κ' ((arr_parts (shares R) (length ys)).part full_share ys b o)) (Open ys)

  module _ {M : Type 1} {𝓤 : Ura M} (𝓛 : Logic 𝓤) (ℓ ℓ' : Lifetime) (ys : List R.Denot) where
    open 𝓛 use {H, A}

    abbrev vals : List Val
    vals = slice_val (b, o) m ∷ []

    pub lends_again : ent 𝓤 (sep 𝓤 (sem 𝓛 ((MutSlice ℓ κ R).own_val (at_list γ ys) vals)) (A.lft κ q))
        (H.⇛ (ex 𝓤 (λ (γ₁ : GName). sep 𝓤 (sem 𝓛 ((MutSlice ℓ' κ' R).own_val (at_list γ₁ ys) vals)) (sem 𝓛 (LentAgain γ₁ ys)))))
    lends_again =
        qed 𝓛 (‵ ((MutSlice ℓ κ R).own_val (at_list γ ys) vals) ∷ ‵ (flft κ q) ∷ []) ∵ updating ! $ fsplit ! $ pure_l ! (mut_slice_at R (at_list γ ys) vals) (λ p. fsplit ! $ opens_slice ! tt R ys b o $
        use1 𝓛 (‵ (cells (mem R) ys b o)) (whole_in 𝓛 R ys b o) $
        use1 𝓛 (later (some (λ (γ₁ : GName). ‵ ((MutSlice ℓ' κ' R).own_val (at_list γ₁ ys) (slice_val (b, o) (length ys) ∷ [])) ⊛ ‵ (flent κ' (Held R (length ys) b o γ₁))))) (lends_slice 𝓛 R ℓ' κ' ys b o p.1) $ await ! tt $ pick ! (λ γ₁. split ! $
        -- [the new slice; the lender's part at κ'; the open borrow at κ; obs γ; auth γ]
        rewrite ! 0 (λ (vs : List Val). ‵ ((MutSlice ℓ' κ' R).own_val (at_list γ₁ ys) vs)) (sym p.0) refl $
        at_once ! $ show ! (λ (γ' : GName). sep 𝓤 (sem 𝓛 ((MutSlice ℓ' κ' R).own_val (at_list γ' ys) vals)) (sem 𝓛 (LentAgain γ' ys))) γ₁ $ frame ! $
        move ! (2 ∷ 3 ∷ []) $ fjoin ! $ move ! (2 ∷ 0 ∷ []) $ fjoin ! $ move ! (1 ∷ 0 ∷ []) $ fjoin ! $ done !))

    pub comes_back : (γ₁ : GName) (zs : List R.Denot) → Room R m → length zs ≡ length ys → length zs ≡ m
        → ent 𝓤 (sep 𝓤 (A.dead κ') (sep 𝓤 (sem 𝓛 (LentAgain γ₁ ys)) (sem 𝓛 (finally R γ₁ zs)))) (H.⇛ (sep 𝓤 (sem 𝓛 ((MutSlice ℓ κ R).own_val (at_list γ zs) vals)) (A.lft κ q)))
    comes_back γ₁ zs room e long =
        qed 𝓛 (‵ (fdead κ') ∷ ‵ (LentAgain γ₁ ys) ∷ ‵ (finally R γ₁ zs) ∷ []) ∵ updating ! $ move ! (1 ∷ []) $ fsplit ! $ move ! (2 ∷ 0 ∷ 3 ∷ []) $
        use3 𝓛 (later (‵ ((Arr (mem R) (length ys)).own_at zs b o))) (slice_back 𝓛 R κ' γ₁ zs (length ys) b o) $ await ! tt $ fsplit ! $ drop ! $ use1 𝓛 (‵ (row R full_share zs b o)) (whole_out 𝓛 R zs b o) $
        move ! (1 ∷ []) $ fsplit ! $ move ! (1 ∷ []) $ fsplit ! $ move ! (3 ∷ 2 ∷ 0 ∷ 1 ∷ []) $ closes_slice ! tt R ys zs e b o $ at_once ! $
        fjoin ! $ pure_i ! (mut_slice_at R (at_list γ zs) vals) (tt, (tt, tt)) (ap (λ (n : ℕ). slice_val (b, o) n ∷ []) (sym long), subst (Room R) (sym long) room) $ fjoin ! $ done !

    -- R is shared by its law (`Denote/Shares.antt`), which takes tokens for the while
    pub shares_out : (l : Lft) → Shares 𝓛 R l → (ts : Toks) → Incl (span ts) l → Incl (span ts) κ'
        → ent 𝓤 (sep 𝓤 (sem 𝓛 ((MutSlice ℓ κ R).own_val (at_list γ ys) vals)) (sep 𝓤 (A.lft κ q) (lfts 𝓛 ts)))
        (H.⇛ (sep 𝓤 (sem 𝓛 ((ShrSlice ℓ' κ' R).own_val (shr_list ys) vals)) (sep 𝓤 (sem 𝓛 (SharedOut ys)) (lfts 𝓛 ts))))
    shares_out l law ts inc sp =
        qed 𝓛 (‵ ((MutSlice ℓ κ R).own_val (at_list γ ys) vals) ∷ ‵ (flft κ q) ∷ raw (lfts 𝓛 ts) ∷ []) ∵ updating ! $ fsplit ! $ pure_l ! (mut_slice_at R (at_list γ ys) vals) (λ p. fsplit ! $ opens_slice ! tt R ys b o $
        feq_i ! ℕ (length ys) (length ys) refl $ fjoin ! $ move ! (0 ∷ 4 ∷ []) $
        use2 𝓛 (later ((‵ ((ShrSlice ℓ' κ' R).own_val (shr_list ys) (slice_val (b, o) (length ys) ∷ [])) ⊛ ‵ (flent κ' ((arr_parts (shares R) (length ys)).part full_share ys b o))) ⊛ raw (lfts 𝓛 ts)))
        (lends_shr_slice 𝓛 R ℓ' κ' full_share ys b o p.1 l law ts inc sp) $ await ! tt $ split ! $ split ! $
        -- [the shared slice; the lender's part at κ'; the tokens; the open borrow at κ; obs γ; auth γ]
        rewrite ! 0 (λ (vs : List Val). ‵ ((ShrSlice ℓ' κ' R).own_val (shr_list ys) vs)) (sym p.0) refl $ at_once ! $ frame ! $
        move ! (3 ∷ 4 ∷ []) $ fjoin ! $ move ! (3 ∷ 0 ∷ []) $ fjoin ! $ move ! (1 ∷ 0 ∷ []) $ fjoin ! $ done !)

    -- and with no token, where R is Copy
    pub shares_out_free : Copied 𝓛 R → ent 𝓤 (sep 𝓤 (sem 𝓛 ((MutSlice ℓ κ R).own_val (at_list γ ys) vals)) (A.lft κ q))
        (H.⇛ (sep 𝓤 (sem 𝓛 ((ShrSlice ℓ' κ' R).own_val (shr_list ys) vals)) (sem 𝓛 (SharedOut ys))))
    shares_out_free c =
        qed 𝓛 (‵ ((MutSlice ℓ κ R).own_val (at_list γ ys) vals) ∷ ‵ (flft κ q) ∷ []) ∵ updating ! $ fsplit ! $ pure_l ! (mut_slice_at R (at_list γ ys) vals) (λ p. fsplit ! $ opens_slice ! tt R ys b o $
        feq_i ! ℕ (length ys) (length ys) refl $ fjoin ! $
        use1 𝓛 (later (‵ (fhide (elements_shared R ys b o κ')) ⊛ ‵ (flent κ' ((arr_parts (shares R) (length ys)).part full_share ys b o)))) (row_lent R 𝓛 c ys b o κ') $ await ! tt $ split ! $
        pure_i ! (shr_slice_at R (shr_list ys) vals) (tt, (tt, tt)) p $ fjoin ! $ at_once ! $ frame ! $
        move ! (2 ∷ 3 ∷ []) $ fjoin ! $ move ! (2 ∷ 0 ∷ []) $ fjoin ! $ move ! (1 ∷ 0 ∷ []) $ fjoin ! $ done !)

    pub comes_home : Room R m → length ys ≡ m → ent 𝓤 (sep 𝓤 (A.dead κ') (sem 𝓛 (SharedOut ys))) (H.⇛ (sep 𝓤 (sem 𝓛 ((MutSlice ℓ κ R).own_val (at_list γ ys) vals)) (A.lft κ q)))
    comes_home room long =
        qed 𝓛 (‵ (fdead κ') ∷ ‵ (SharedOut ys) ∷ []) ∵ updating ! $ move ! (1 ∷ []) $ fsplit ! $ move ! (2 ∷ 0 ∷ []) $ lent_back ! tt $ fsplit ! $ drop ! $
        move ! (1 ∷ []) $ fsplit ! $ move ! (1 ∷ []) $ fsplit ! $ move ! (3 ∷ 2 ∷ 0 ∷ 1 ∷ []) $ closes_slice ! tt R ys ys refl b o $ at_once ! $
        fjoin ! $ pure_i ! (mut_slice_at R (at_list γ ys) vals) (tt, (tt, tt)) (ap (λ (n : ℕ). slice_val (b, o) n ∷ []) (sym long), subst (Room R) (sym long) room) $ fjoin ! $ done !
