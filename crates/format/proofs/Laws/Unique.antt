-- A list of instructions is that of one program only.
use Rattle.std.specs.Prelude.{◌≡◌, refl, ℕ, suc, Bool, true, false, ◌&&◌, cond, length, leb}
use Rattle.std.proofs.Common.{sym, ap, ap₂, ◌∙◌, arith}
use Rattle.std.proofs.lemmas.Bool.{false≢true}
use mathlib.Core.List.{List, [], ◌∷◌, ◌++◌, map, flat_map, append_assoc}
use Rattle.meaning.proofs.Laws.Rows.{and_l, and_r}
use Rattle.meaning.specs.Tables.{most_timers}
use Rattle.meaning.specs.Programs.{Test, Part, also, bracket, Body, Rung, TimerRung, Program, load_of, and_of, part_of, body_of, rung_of, timer_rung_of, timer_rungs_from, instructions, all, body_fits, flip_flop_fits, output_fits, store_fits, rung_fits, timer_rung_fits, program_fits}
use Rattle.meaning.specs.declared.Operand.{Operand}
use Rattle.meaning.specs.declared.Operand.TheVariants.{TimerIn, TimerPt, Timer, True}
use Rattle.meaning.specs.declared.Operator.{Operator}
use Rattle.meaning.specs.declared.Operator.TheVariants.{Ld, Ldn, And, Andn, Or, Close, St, S, R, Cal, LdTime}
use Rattle.format.proofs.Laws.Parsing.{bracket_front}

-- ---- which instructions begin what: loads, ANDs, OR(, ), and those that end a body

kind : Operator → ℕ
kind (Ld o) = 0
kind (Ldn o) = 0
kind (And o) = 1
kind (Andn o) = 1
kind Or = 2
kind Close = 3
kind (St o) = 4
kind (S o) = 4
kind (R o) = 4
kind (Cal o) = 4
kind (LdTime n) = 4

first_kind : List Operator → ℕ
first_kind [] = 0
first_kind (i ∷ l) = kind i

-- the test of a load or an AND
test_of : Operator → Test
test_of (Ld o) = record { wanted = true; operand = o }
test_of (Ldn o) = record { wanted = false; operand = o }
test_of (And o) = record { wanted = true; operand = o }
test_of (Andn o) = record { wanted = false; operand = o }
test_of Or = record { wanted = true; operand = True }
test_of Close = record { wanted = true; operand = True }
test_of (St o) = record { wanted = true; operand = o }
test_of (S o) = record { wanted = true; operand = o }
test_of (R o) = record { wanted = true; operand = o }
test_of (Cal o) = record { wanted = true; operand = o }
test_of (LdTime n) = record { wanted = true; operand = True }

record Tests (k : ℕ) (t : Test) (i : Operator) : Type 0 where
  kinds : kind i ≡ k
  tests : test_of i ≡ t

load_tests : (t : Test) → Tests 0 t (load_of t)
unfolding load_of kind test_of
load_tests t = go t.wanted t.operand
  where
    go : (b : Bool) (o : Operand) → Tests 0 (record { wanted = b; operand = o }) (cond b (Ld o) (Ldn o))
    go true o = record { kinds = refl; tests = refl }
    go false o = record { kinds = refl; tests = refl }

and_tests : (t : Test) → Tests 1 t (and_of t)
unfolding and_of kind test_of
and_tests t = go t.wanted t.operand
  where
    go : (b : Bool) (o : Operand) → Tests 1 (record { wanted = b; operand = o }) (cond b (And o) (Andn o))
    go true o = record { kinds = refl; tests = refl }
    go false o = record { kinds = refl; tests = refl }

store_kind : (i : Operator) → store_fits i ≡ true → kind i ≡ 4
unfolding store_fits kind
store_kind (Ld o) f = absurd (false≢true f)
store_kind (Ldn o) f = absurd (false≢true f)
store_kind (And o) f = absurd (false≢true f)
store_kind (Andn o) f = absurd (false≢true f)
store_kind Or f = absurd (false≢true f)
store_kind Close f = absurd (false≢true f)
store_kind (St o) f = refl
store_kind (S o) f = refl
store_kind (R o) f = refl
store_kind (Cal o) f = refl
store_kind (LdTime n) f = refl

pub head_same : {A : Type 0} {x y : A} {l m : List A} → x ∷ l ≡ y ∷ m → x ≡ y
head_same e = cc

pub tail_same : {A : Type 0} {x y : A} {l m : List A} → x ∷ l ≡ y ∷ m → l ≡ m
tail_same e = cc

load_same : {t u : Test} {l m : List Operator} → load_of t ∷ l ≡ load_of u ∷ m → t ≡ u
load_same {t} {u} e = sym (load_tests t).tests ∙ ap test_of (head_same e) ∙ (load_tests u).tests

and_same : {t u : Test} {l m : List Operator} → and_of t ∷ l ≡ and_of u ∷ m → t ≡ u
and_same {t} {u} e = sym (and_tests t).tests ∙ ap test_of (head_same e) ∙ (and_tests u).tests

-- ---- brackets and bodies

more_same : (ts us : List Test) (l m : List Operator) → map and_of ts ++ (Close ∷ l) ≡ map and_of us ++ (Close ∷ m) → (ts ≡ us) × (l ≡ m)
unfolding kind first_kind
more_same [] [] l m e = (refl, tail_same e)
more_same [] (u ∷ us) l m e = absurd (omega (arith, ap first_kind e, (and_tests u).kinds))
more_same (t ∷ ts) [] l m e = absurd (omega (arith, ap first_kind e, (and_tests t).kinds))
more_same (t ∷ ts) (u ∷ us) l m e = let r = more_same ts us l m (tail_same e) in (ap₂ ◌∷◌ (and_same e) r.0, r.1)

parts_same : (ps qs : List Part) (x y : Operator) (l m : List Operator) → kind x ≡ 4 → kind y ≡ 4 → flat_map part_of ps ++ (x ∷ l) ≡ flat_map part_of qs ++ (y ∷ m) → (ps ≡ qs) × (x ∷ l ≡ y ∷ m)
unfolding flat_map part_of kind first_kind
parts_same [] [] x y l m a b e = (refl, e)
parts_same [] (also u ∷ qs) x y l m a b e = absurd (omega (arith, ap first_kind e, (and_tests u).kinds))
parts_same [] (bracket h ∷ qs) x y l m a b e = absurd (omega (arith, ap first_kind e))
parts_same (also t ∷ ps) [] x y l m a b e = absurd (omega (arith, ap first_kind e, (and_tests t).kinds))
parts_same (also t ∷ ps) (also u ∷ qs) x y l m a b e = let r = parts_same ps qs x y l m a b (tail_same e) in (ap₂ ◌∷◌ (ap also (and_same e)) r.0, r.1)
parts_same (also t ∷ ps) (bracket h ∷ qs) x y l m a b e = absurd (omega (arith, ap first_kind e, (and_tests t).kinds))
parts_same (bracket g ∷ ps) [] x y l m a b e = absurd (omega (arith, ap first_kind e))
parts_same (bracket g ∷ ps) (also u ∷ qs) x y l m a b e = absurd (omega (arith, ap first_kind e, (and_tests u).kinds))
parts_same (bracket g ∷ ps) (bracket h ∷ qs) x y l m a b e =
    let f = tail_same (sym (bracket_front g ps (x ∷ l)) ∙ e ∙ bracket_front h qs (y ∷ m)) in
    let c = more_same g.more h.more (flat_map part_of ps ++ (x ∷ l)) (flat_map part_of qs ++ (y ∷ m)) (tail_same f) in
    let r = parts_same ps qs x y l m a b c.1 in
    (ap₂ ◌∷◌ (ap bracket (λ i. record { first = load_same f i; more = c.0 i })) r.0, r.1)

body_same : (b c : Body) (x y : Operator) (l m : List Operator) → kind x ≡ 4 → kind y ≡ 4 → body_of b ++ (x ∷ l) ≡ body_of c ++ (y ∷ m) → (b ≡ c) × (x ∷ l ≡ y ∷ m)
unfolding body_of
body_same b c x y l m h k e =
    let r = parts_same b.parts c.parts x y l m h k (tail_same e) in
    (λ i. record { first = load_same e i; parts = r.0 i }, r.1)

-- ---- rungs

stores_same : (is js l m : List Operator) → all store_fits is ≡ true → all store_fits js ≡ true → first_kind l ≡ 0 → first_kind m ≡ 0 → is ++ l ≡ js ++ m → (is ≡ js) × (l ≡ m)
unfolding all first_kind
stores_same [] [] l m f g a b e = (refl, e)
stores_same [] (j ∷ js) l m f g a b e = absurd (omega (arith, ap first_kind e, store_kind j (and_l (store_fits j) _ g)))
stores_same (i ∷ is) [] l m f g a b e = absurd (omega (arith, ap first_kind e, store_kind i (and_l (store_fits i) _ f)))
stores_same (i ∷ is) (j ∷ js) l m f g a b e = let r = stores_same is js l m (and_r (store_fits i) _ f) (and_r (store_fits j) _ g) a b (tail_same e) in (ap₂ ◌∷◌ (head_same e) r.0, r.1)

rungs_first : (rs : List Rung) → first_kind (flat_map rung_of rs) ≡ 0
unfolding flat_map rung_of body_of first_kind
rungs_first [] = refl
rungs_first (r ∷ rs) = (load_tests r.body.first).kinds

rung_store : (d : ℕ) (r : Rung) → rung_fits d r ≡ true → store_fits r.store ≡ true
unfolding rung_fits
rung_store d r f = and_r (body_fits d r.body) _ (and_l (body_fits d r.body && store_fits r.store) _ f)

rung_list : (r : Rung) (rs : List Rung) → flat_map rung_of (r ∷ rs) ≡ body_of r.body ++ (r.store ∷ (r.stores ++ flat_map rung_of rs))
unfolding flat_map rung_of
rung_list r rs = append_assoc (body_of r.body) _ _

timer_list : (n : ℕ) (t : TimerRung) (ts : List TimerRung) (l : List Operator)
    → timer_rungs_from n (t ∷ ts) ++ l ≡ body_of t.body ++ (St (TimerIn n) ∷ LdTime t.time ∷ St (TimerPt n) ∷ Cal (Timer n) ∷ (timer_rungs_from (suc n) ts ++ l))
unfolding timer_rungs_from timer_rung_of
timer_list n t ts l = append_assoc (body_of t.body ++ _) _ _ ∙ append_assoc (body_of t.body) _ _

rungs_same : (d e : ℕ) (rs qs : List Rung) → all (rung_fits d) rs ≡ true → all (rung_fits e) qs ≡ true → flat_map rung_of rs ≡ flat_map rung_of qs → rs ≡ qs
unfolding all flat_map rung_of body_of rung_fits
rungs_same d e [] [] f g p = refl
rungs_same d e [] (q ∷ qs) f g p = absurd (omega (arith, ap length p))
rungs_same d e (r ∷ rs) [] f g p = absurd (omega (arith, ap length p))
rungs_same d e (r ∷ rs) (q ∷ qs) f g p =
    let fr = and_l (rung_fits d r) _ f in
    let gq = and_l (rung_fits e q) _ g in
    let b = body_same r.body q.body r.store q.store _ _ (store_kind _ (rung_store d r fr)) (store_kind _ (rung_store e q gq)) (sym (rung_list r rs) ∙ p ∙ rung_list q qs) in
    let s = stores_same r.stores q.stores _ _ (and_r (body_fits d r.body && store_fits r.store) _ fr) (and_r (body_fits e q.body && store_fits q.store) _ gq) (rungs_first rs) (rungs_first qs) (tail_same b.1) in
    ap₂ ◌∷◌ (λ i. record { body = b.0 i; store = head_same b.1 i; stores = s.0 i }) (rungs_same d e rs qs (and_r (rung_fits d r) _ f) (and_r (rung_fits e q) _ g) s.1)

-- a rung is no timer rung
rung_no_timer : (d n : ℕ) (t : TimerRung) (ts : List TimerRung) (l : List Operator) (rs : List Rung) → all (rung_fits d) rs ≡ true → flat_map rung_of rs ≡ timer_rungs_from n (t ∷ ts) ++ l → ⊥
unfolding all flat_map timer_rungs_from timer_rung_of body_of kind store_fits flip_flop_fits output_fits
rung_no_timer d n t ts l [] f p = omega (arith, ap length p)
rung_no_timer d n t ts l (r ∷ rs) f p =
    let g = rung_store d r (and_l (rung_fits d r) _ f) in
    let b = body_same r.body t.body r.store (St (TimerIn n)) _ _ (store_kind r.store g) refl (sym (rung_list r rs) ∙ p ∙ timer_list n t ts l) in
    false≢true (rw (head_same b.1) at g)

timers_same : (d e n : ℕ) (ts us : List TimerRung) (rs qs : List Rung) → all (rung_fits d) rs ≡ true → all (rung_fits e) qs ≡ true
    → timer_rungs_from n ts ++ flat_map rung_of rs ≡ timer_rungs_from n us ++ flat_map rung_of qs → (ts ≡ us) × (rs ≡ qs)
unfolding kind timer_rungs_from
timers_same d e n [] [] rs qs f g p = (refl, rungs_same d e rs qs f g p)
timers_same d e n [] (u ∷ us) rs qs f g p = absurd (rung_no_timer d n u us _ rs f p)
timers_same d e n (t ∷ ts) [] rs qs f g p = absurd (rung_no_timer e n t ts _ qs g (sym p))
timers_same d e n (t ∷ ts) (u ∷ us) rs qs f g p =
    let b = body_same t.body u.body (St (TimerIn n)) (St (TimerIn n)) _ _ refl refl (sym (timer_list n t ts (flat_map rung_of rs)) ∙ p ∙ timer_list n u us (flat_map rung_of qs)) in
    let c = tail_same b.1 in
    let time : t.time ≡ u.time = cc in
    let r = timers_same d e (suc n) ts us rs qs f g (tail_same (tail_same (tail_same c))) in
    (ap₂ ◌∷◌ (λ i. record { body = b.0 i; time = time i }) r.0, r.1)

fits_rungs : (p : Program) → program_fits p ≡ true → all (rung_fits (length p.timers)) p.rungs ≡ true
unfolding program_fits
fits_rungs p f = let d = length p.timers in and_r (leb d most_timers && all (timer_rung_fits d) p.timers) _ f

-- the program of a list is unique
pub program_same : (p q : Program) → program_fits p ≡ true → program_fits q ≡ true → instructions p ≡ instructions q → p ≡ q
unfolding program_fits instructions
program_same p q f g e =
    let r = timers_same (length p.timers) (length q.timers) 1 p.timers q.timers p.rungs q.rungs (fits_rungs p f) (fits_rungs q g) e in
    λ i. record { timers = r.0 i; rungs = r.1 i }
