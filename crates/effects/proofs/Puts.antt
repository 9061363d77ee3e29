-- Parts of a ledger put anew, one after the other; a fence and its harts as the words have them.
-- Assumes nothing.
use Prim.Native.Nat.{ℕ, ◌+◌, ◌≤◌}
use mathlib.Core.Path.{◌≡◌, refl, sym, ◌∙◌, fun_ext}
use mathlib.Core.Bool.{false, cond}
use mathlib.Core.List.{List}
use native.Mathlib.Omega.{arith}
use lib.Dec.{ltb, eqb}
use borrow.Author.Tests.{eqb-true, eqb-false, eq-eqb, ltb-true, ltb-false, lt-ltb, le-ltb}
use Rattle.sets.specs.Terms.{put}
use Rattle.sets.proofs.Bools.{by_test}
use Rattle.sets.proofs.Laws.{member_none}
use Rattle.rules.specs.Fence.{strike}
use Rattle.rules.specs.Ledger.{Ledger, Slot, Region, with_slot, with_fence}
use Rattle.rules.specs.Encoding.{view, view_of, bits}
use Rattle.effects.specs.Parts.{no_region}

-- ---- puts
module _ {A : Type 0} (k : ℕ) (v : A) (f : ℕ → A) where
  put_at : put k v f k ≡ v
  put_at = rw (eq-eqb k k refl)

  put_again : (u : A) → put k v (put k u f) ≡ put k v f
  put_again u = fun_ext (λ j. by_test (eqb j k) (λ e. rw e) (λ e. rw e))

pub put_same : {A : Type 0} (k : ℕ) (f : ℕ → A) → put k (f k) f ≡ f
put_same k f = fun_ext (λ j. by_test (eqb j k) (λ e. rw (e, eqb-true j k e)) (λ e. rw e))

-- ---- a slot put, and then put again by what it was
pub slot_again : (g : Slot → Slot) (k : ℕ) (s : Slot) (l v v' : Ledger) → v ≡ with_slot k s l → v' ≡ with_slot k (g (v.slot k)) v → v' ≡ with_slot k (g s) l
slot_again g k s l v v' e f =
    f ∙ (λ i. with_slot k (g ((e i).slot k)) (e i))
    ∙ (λ i. with_slot k (g (put_at k s l.slot i)) (with_slot k s l))
    ∙ (λ i. record { harts = l.harts; pages = l.pages; global = l.global; slot = put_again k (g s) l.slot s i; hart = l.hart })

pub slot_same : (k : ℕ) (l : Ledger) → l ≡ with_slot k (l.slot k) l
slot_same k l = λ i. record { harts = l.harts; pages = l.pages; global = l.global; slot = sym (put_same k l.slot) i; hart = l.hart }

-- ---- regions cleared, the first i of them
abbrev pub cleared_to : ℕ → (ℕ → Region) → ℕ → Region
cleared_to i r j = cond (ltb j i) no_region (r j)

pub cleared_none : (r : ℕ → Region) → cleared_to 0 r ≡ r
cleared_none r = fun_ext (λ j. rw (le-ltb j 0 (omega arith)))

pub cleared_next : (i : ℕ) (r : ℕ → Region) → put i no_region (cleared_to i r) ≡ cleared_to (i + 1) r
cleared_next i r =
    fun_ext (λ j. by_test (eqb j i) (λ e. let z = eqb-true j i e in rw (e, lt-ltb j (i + 1) (omega arith)))
    (λ e. let z = eqb-false j i e in rw e (by_test (ltb j i) (λ u. let y = ltb-true j i u in rw (u, lt-ltb j (i + 1) (omega arith)))
    (λ u. let y = ltb-false j i u in rw (u, le-ltb j (i + 1) (omega arith))))))

pub cleared_all : (ws : List ℕ) (k : ℕ) → cleared_to 8 ((view ws).slot k).region ≡ (λ j. no_region)
unfolding view_of
cleared_all ws k = fun_ext (λ j. by_test (ltb j 8) (λ e. rw e) (λ e. rw e))

pub nobody-made : bits 0 ≡ (λ v. false)
nobody-made = fun_ext (λ v. member_none v)

-- ---- a slot that there is not awaits nobody
pub past_slots : (ws : List ℕ) (k h : ℕ) → 16 ≤ k → view ws ≡ with_slot k (with_fence (strike h ((view ws).slot k).fence) ((view ws).slot k)) (view ws)
unfolding view_of
past_slots ws k h b = slot_same k (view ws) ∙ (λ i. with_slot k (with_fence (record { version = ((view ws).slot k).fence.version; awaited = struck i }) ((view ws).slot k)) (view ws))
  where
    struck : ((view ws).slot k).fence.awaited ≡ put h false ((view ws).slot k).fence.awaited
    struck = fun_ext (λ j. by_test (eqb j h) (λ e. rw (e, le-ltb k 16 b) (member_none j)) (λ e. rw e))
