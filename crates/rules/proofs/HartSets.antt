-- A byte as a set of harts: what the operations on bytes make of it.
-- Assumes nothing.
use Prim.Native.Nat.{ℕ, ◌+◌, ◌^◌, ◌≤◌, ◌<◌}
use mathlib.Core.Path.{◌≡◌, sym, ◌∙◌, ap, fun_ext, refl}
use mathlib.Core.Bool.{Bool, true, false, cond, not, ◌&&◌, ◌||◌, false≢true}
use native.Mathlib.Omega.{arith}
use lib.Dec.{ltb, eqb}
use borrow.Author.Tests.{eqb-true, eqb-false, eq-eqb, ne_eqb, lt-ltb, le-ltb, ltb-true, ltb-false}
use Rattle.sets.specs.Terms.{put}
use Rattle.sets.specs.Set.{member, with, without, full}
use Rattle.sets.proofs.Bools.{by_test}
use Rattle.sets.proofs.Laws.{member_none, member-with, member-without, member-full, ext}
use Rattle.sets.proofs.Looks.{any_at, any_off}
use Rattle.rules.specs.Fence.{Harts, someone}
use Rattle.rules.specs.Encoding.{bits}

-- nobody is in the byte 0, and in no other
pub nobody : (w : ℕ) → w < 2 ^ 8 → eqb w 0 ≡ not (someone (bits w))
nobody w h = by_test (someone (bits w)) (λ e. rw e (ne_eqb w 0 (λ z. false≢true (sym (none z) ∙ e)))) (λ e. rw e (eq-eqb w 0 (all e)))
  where
    none : w ≡ 0 → someone (bits w) ≡ false
    none z = any_off (bits w) 8 (λ j l. ap (member j) z ∙ member_none j)

    all : someone (bits w) ≡ false → w ≡ 0
    all e = ext 8 w 0 h (omega arith) (λ j l. any_at (bits w) 8 j e l ∙ sym (member_none j))

pub bits-without : (w h : ℕ) → bits (without w h) ≡ put h false (bits w)
bits-without w h = fun_ext (λ j. member-without j w h ∙ go j (eqb j h))
  where
    go : (j : ℕ) (b : Bool) → (not b && member j w) ≡ cond b false (member j w)
    go j true = refl
    go j false = refl

pub bits-with : (w h : ℕ) → bits (with w h) ≡ put h true (bits w)
bits-with w h = fun_ext (λ j. member-with j w h ∙ go j (eqb j h))
  where
    go : (j : ℕ) (b : Bool) → (b || member j w) ≡ cond b true (member j w)
    go j true = refl
    go j false = refl

-- every hart below n but one
pub bits_others : (n h : ℕ) → bits (without (full n) h) ≡ (λ j. ltb j n && not (eqb j h))
bits_others n h = fun_ext (λ j. member-without j (full n) h ∙ rw (member-full n j) (go (eqb j h) (ltb j n)))
  where
    go : (a b : Bool) → (not a && b) ≡ (b && not a)
    go true true = refl
    go true false = refl
    go false true = refl
    go false false = refl

-- ---- the harts below h that pass
abbrev pub upto : Harts → ℕ → Harts
upto p h j = ltb j h && p j

pub upto_none : (p : Harts) → bits 0 ≡ upto p 0
upto_none p = fun_ext (λ j. member_none j ∙ rw (le-ltb j 0 (omega arith)))

up_one : (p : Harts) (i j : ℕ) (b : Bool) → p i ≡ b → (b && eqb j i || ltb j i && p j) ≡ upto p (i + 1) j
up_one p i j b q =
    by_test (eqb j i)
    (λ e. let z : j ≡ i = eqb-true j i e in rw (e, lt-ltb j (i + 1) (omega arith), le-ltb j i (omega arith), z, q) (last b))
    (λ e. let z = eqb-false j i e in
    by_test (ltb j i) (λ y. let l = ltb-true j i y in rw (e, y, lt-ltb j (i + 1) (omega arith)) (skip b (p j)))
    (λ y. let l = ltb-false j i y in rw (e, y, le-ltb j (i + 1) (omega arith)) (skip b false)))
  where
    last : (b : Bool) → (b && true || false) ≡ b
    last true = refl
    last false = refl

    skip : (b x : Bool) → (b && false || x) ≡ x
    skip true x = refl
    skip false x = refl

pub upto_with : (p : Harts) (i w : ℕ) → bits w ≡ upto p i → p i ≡ true → bits (with w i) ≡ upto p (i + 1)
upto_with p i w e q = fun_ext (λ j. member-with j w i ∙ ap (λ (x : Bool). eqb j i || x) (ap (λ (f : Harts). f j) e) ∙ up_one p i j true q)

pub upto_skip : (p : Harts) (i w : ℕ) → bits w ≡ upto p i → p i ≡ false → bits w ≡ upto p (i + 1)
upto_skip p i w e q = fun_ext (λ j. ap (λ (f : Harts). f j) e ∙ up_one p i j false q)

-- harts 8 and up never pass
pub upto_all : (p : Harts) → ((j : ℕ) → 8 ≤ j → p j ≡ false) → upto p 8 ≡ p
upto_all p h = fun_ext (λ j. by_test (ltb j 8) (λ e. rw e) (λ e. rw e (sym (h j (ltb-false j 8 e)))))
