-- On every ledger that calls can reach: no mark is above its slot's version, a hart that a TVM's fence awaits is inside it with an older mark, and
-- the version of a slot in use can still move.
-- Assumes nothing.
use Prim.Native.Nat.{ℕ, ◌+◌, ◌≤◌, ◌<◌}
use mathlib.Core.Path.{◌≡◌, refl, sym, subst, ◌∙◌, ap, fun_ext}
use mathlib.Core.Bool.{Bool, true, false, cond, not, ◌||◌, true≢false, false≢true}
use mathlib.Core.Option.{Option, none, some}
use native.Mathlib.Omega.{arith}
use lib.Dec.{ltb, eqb}
use borrow.Author.Tests.{eqb-true, eq-eqb, ne_eqb, ltb-true, leb-false, not-false}
use Rattle.sets.specs.Terms.{put}
use Rattle.sets.specs.Look.{any, lowest}
use Rattle.sets.proofs.Bools.{iff, or_left, or_right, and_right}
use Rattle.sets.proofs.Looks.{lowest_true, lowest-any}
use Rattle.rules.specs.declared.Call.{Call}
use Rattle.rules.specs.Page.{Table}
use Rattle.rules.specs.Fence.{Tracker, begin, strike}
use Rattle.rules.specs.Ledger.{Ledger, Slot, Hart, Place, inside, outside, is_in_slot, is_outside, slot_of, insiders_of, with_fence, flushes, start, bare}
use Rattle.rules.specs.Refusals.{takeable, taken}
use Rattle.rules.specs.Effects.{ledger, entered, destroyed}
use Rattle.rules.proofs.Accepted.{call, ByCall, Passed, comes_from_outside, at_number}
use Rattle.history.proofs.Spans.{put_field}

pub record Marks (slot : ℕ → Slot) (hart : ℕ → Hart) : Type 0 where
  pub marks : (j k m : ℕ) → (hart j).mark k ≡ some m → m ≤ (slot k).fence.version
  pub waits : (j k : ℕ) → (slot k).fence.awaited j ≡ true → (is_in_slot k (hart j).place ≡ true) × (flushes ((hart j).mark k) (slot k).fence.version ≡ true)
  pub lives : (k : ℕ) → eqb (slot k).phase 0 ≡ false → (slot k).fence.version ≤ 65534

abbrev pub MarksIn : Ledger → Type 0
MarksIn l = Marks l.slot l.hart

-- a mark of an older version is not the present one
older : (v : ℕ) (o : Option ℕ) → ((m : ℕ) → o ≡ some m → m < v) → flushes o v ≡ true
older v none f = refl
older v (some m) f = rw (ne_eqb m v (let z = f m refl in omega arith))

pub newer : {slot : ℕ → Slot} {hart : ℕ → Hart} → Marks slot hart → (j k v : ℕ) → (slot k).fence.version < v → flushes ((hart j).mark k) v ≡ true
newer {hart = hart} s j k v e = older v ((hart j).mark k) (λ m o. let z = s.marks j k m o in omega arith)

pub eqb_sym : (a b : ℕ) → eqb a b ≡ eqb b a
eqb_sym a b = iff (eqb a b) (eqb b a) (λ e. eq-eqb b a (sym (eqb-true a b e))) (λ e. eq-eqb a b (sym (eqb-true b a e)))

no-mark : (m : ℕ) → ◌≡◌ {A = Option ℕ} none (some m) → ⊥
no-mark m e = let z : ◌≡◌ {A = ℕ} 0 1 = cc in omega arith

pub marks_first : Marks (λ k. bare 0 start) (λ j. record { place = outside; mark = λ k. none })
marks_first = record { marks = λ j k m e. absurd (no-mark m e); waits = λ j k e. absurd (false≢true e); lives = λ k e. absurd (true≢false e) }

-- leaving strikes the hart out of the slot where it is
abbrev pub left_slot : Ledger → ℕ → ℕ → Bool → Slot
left_slot l h k b = cond b (with_fence (strike h (l.slot k).fence) (l.slot k)) (l.slot k)

pub left-slot : (l : Ledger) (t : Table) (c : Call) → Passed l t (call 32 c) → (ledger l t (call 32 c)).slot ≡ (λ k. left_slot l c.hart k (is_in_slot k (l.hart c.hart).place))
unfolding at_number
left-slot l t c p = fun_ext (λ k. at k (l.hart c.hart).place p.p15)
  where
    h : ℕ
    h = c.hart

    go : (k x : ℕ) (b : Bool) → eqb k x ≡ b
        → cond b (with_fence (strike h (l.slot x).fence) (l.slot x)) (l.slot k) ≡ cond b (with_fence (strike h (l.slot k).fence) (l.slot k)) (l.slot k)
    go k x true e = ap (λ y. with_fence (strike h (l.slot y).fence) (l.slot y)) (sym (eqb-true k x e))
    go k x false e = refl

    at : (k : ℕ) (x : Place) → is_outside x ≡ false
        → put (slot_of x) (with_fence (strike h (l.slot (slot_of x)).fence) (l.slot (slot_of x))) l.slot k ≡ cond (is_in_slot k x) (with_fence (strike h (l.slot k).fence) (l.slot k)) (l.slot k)
    at k outside e = absurd (true≢false e)
    at k (inside x v) e = rw (eqb_sym x k) (go k x (eqb k x) refl)

module _ (l : Ledger) (t : Table) (c : Call) (s : MarksIn l) where
  -- a slot put anew with the fence that it had
  module _ (x : ℕ) (r : Slot) (e : r.fence ≡ (l.slot x).fence) (live : (l.slot x).fence.version ≤ 65534) where
    fence_kept : (k : ℕ) → (put x r l.slot k).fence ≡ (l.slot k).fence
    fence_kept = put_field (λ (s : Slot). s.fence) x r l.slot e

    with-slot : Marks (put x r l.slot) l.hart
    with-slot = record {
      marks = λ j k m o. subst (λ (f : Tracker). m ≤ f.version) (sym (fence_kept k)) (s.marks j k m o);
      waits = λ j k. subst (λ (f : Tracker). f.awaited j ≡ true → (is_in_slot k (l.hart j).place ≡ true) × (flushes ((l.hart j).mark k) f.version ≡ true))
          (sym (fence_kept k)) (s.waits j k);
      lives = λ k. go k (eqb k x) refl;
    }
      where
        go : (k : ℕ) (b : Bool) → eqb k x ≡ b → eqb (cond b r (l.slot k)).phase 0 ≡ false → (cond b r (l.slot k)).fence.version ≤ 65534
        go k true u v = subst (λ (f : Tracker). f.version ≤ 65534) (sym e) live
        go k false u v = s.lives k v

  -- the slot of the tvm is in use
  pub alive : (ltb 15 c.a0 || eqb (l.slot c.a0).phase 0) ≡ false → (l.slot c.a0).fence.version ≤ 65534
  alive e = s.lives c.a0 (or_right (ltb 15 c.a0) (eqb (l.slot c.a0).phase 0) e)

  -- create takes a slot whose version is below 65,534
  takes_open : Passed l t (call 5 c) → (l.slot (taken l)).fence.version ≤ 65534
  unfolding at_number taken
  takes_open q =
      let low = lowest (takeable l) 16 in
      let u : low < 16 = ltb-true low 16 (lowest-any (takeable l) 16 ∙ not-false (any (takeable l) 16) (or_left (not (any (takeable l) 16)) false q.p9)) in
      let w = ltb-true (l.slot low).fence.version 65534 (and_right (eqb (l.slot low).phase 0) (ltb (l.slot low).fence.version 65534) (lowest_true (takeable l) 16 u)) in
      omega arith

  by8 : Passed l t (call 8 c) → MarksIn (ledger l t (call 8 c))
  unfolding at_number
  by8 q = record { marks = λ j k m e. mk k m (eqb k c.a0) refl (s.marks j k m e); waits = λ j k. wt j k (eqb k c.a0) refl; lives = λ k. lv k (eqb k c.a0) refl }
    where
      new : Slot
      new = destroyed (l.slot c.a0)

      moved_on : (k : ℕ) → eqb k c.a0 ≡ true → (l.slot k).fence.version + 1 ≡ new.fence.version
      moved_on k u =
          let y = alive q.p2 in
          let z : (l.slot k).fence.version ≡ (l.slot c.a0).fence.version = ap (λ i. (l.slot i).fence.version) (eqb-true k c.a0 u) in
          omega arith

      mk : (k m : ℕ) (b : Bool) → eqb k c.a0 ≡ b → m ≤ (l.slot k).fence.version → m ≤ (cond b new (l.slot k)).fence.version
      mk k m true u e = let z = moved_on k u in omega arith
      mk k m false u e = e

      wt : (j k : ℕ) (b : Bool) → eqb k c.a0 ≡ b → (cond b new (l.slot k)).fence.awaited j ≡ true
          → (is_in_slot k (l.hart j).place ≡ true) × (flushes ((l.hart j).mark k) (cond b new (l.slot k)).fence.version ≡ true)
      wt j k true u w = ((s.waits j k (rw (eqb-true k c.a0 u) w)).0, newer s j k new.fence.version (let z = moved_on k u in omega arith))
      wt j k false u w = s.waits j k w

      lv : (k : ℕ) (b : Bool) → eqb k c.a0 ≡ b → eqb (cond b new (l.slot k)).phase 0 ≡ false → (cond b new (l.slot k)).fence.version ≤ 65534
      lv k true u e = absurd (true≢false e)
      lv k false u e = s.lives k e

  -- enter: the hart was outside
  pub was_out : Passed l t (call 15 c) → (k : ℕ) → is_in_slot k (l.hart c.hart).place ≡ false
  unfolding at_number
  was_out q k = out (l.hart c.hart).place (not-false _ (comes_from_outside l t (call 15 c) q))
    where
      out : (x : Place) → is_outside x ≡ true → is_in_slot k x ≡ false
      out outside e = refl
      out (inside i v) e = absurd (false≢true e)

  by15 : Passed l t (call 15 c) → MarksIn (ledger l t (call 15 c))
  unfolding at_number
  by15 q = record { marks = λ j k m. mk j k m (eqb j c.hart); waits = λ j k w. wt j k w (eqb j c.hart) refl; lives = s.lives }
    where
      v : ℕ
      v = (l.slot c.a0).fence.version

      new : Hart
      new = entered l t (call 15 c) (l.hart c.hart)

      mk2 : (k m : ℕ) (b : Bool) → eqb k c.a0 ≡ b → cond b (some v) ((l.hart c.hart).mark k) ≡ some m → m ≤ (l.slot k).fence.version
      mk2 k m true w e =
          let z : v ≡ m = cc in
          let y : (l.slot k).fence.version ≡ v = ap (λ i. (l.slot i).fence.version) (eqb-true k c.a0 w) in
          omega arith
      mk2 k m false w e = s.marks c.hart k m e

      mk : (j k m : ℕ) (b : Bool) → (cond b new (l.hart j)).mark k ≡ some m → m ≤ (l.slot k).fence.version
      mk j k m true e = mk2 k m (eqb k c.a0) refl e
      mk j k m false e = s.marks j k m e

      wt : (j k : ℕ) → (l.slot k).fence.awaited j ≡ true → (b : Bool) → eqb j c.hart ≡ b
          → (is_in_slot k (cond b new (l.hart j)).place ≡ true) × (flushes ((cond b new (l.hart j)).mark k) (l.slot k).fence.version ≡ true)
      wt j k w true u = absurd (true≢false (sym (s.waits j k w).0 ∙ ap (λ i. is_in_slot k (l.hart i).place) (eqb-true j c.hart u) ∙ was_out q k))
      wt j k w false u = s.waits j k w

  by16 : Passed l t (call 16 c) → MarksIn (ledger l t (call 16 c))
  unfolding at_number
  by16 q = record { marks = λ j k m e. mk k m (eqb k c.a0) refl (s.marks j k m e); waits = λ j k. wt j k (eqb k c.a0) refl; lives = λ k. lv k (eqb k c.a0) refl }
    where
      new : Slot
      new = with_fence (begin (insiders_of l c.a0) (l.slot c.a0).fence) (l.slot c.a0)

      moved_on : (k : ℕ) → eqb k c.a0 ≡ true → (l.slot k).fence.version + 1 ≡ (l.slot c.a0).fence.version + 1
      moved_on k u = ap (λ i. (l.slot i).fence.version + 1) (eqb-true k c.a0 u)

      mk : (k m : ℕ) (b : Bool) → eqb k c.a0 ≡ b → m ≤ (l.slot k).fence.version → m ≤ (cond b new (l.slot k)).fence.version
      mk k m true u e = let z = moved_on k u in omega arith
      mk k m false u e = e

      wt : (j k : ℕ) (b : Bool) → eqb k c.a0 ≡ b → (cond b new (l.slot k)).fence.awaited j ≡ true
          → (is_in_slot k (l.hart j).place ≡ true) × (flushes ((l.hart j).mark k) (cond b new (l.slot k)).fence.version ≡ true)
      wt j k true u w = (rw (eqb-true k c.a0 u) w, newer s j k ((l.slot c.a0).fence.version + 1) (let z = moved_on k u in omega arith))
      wt j k false u w = s.waits j k w

      lv : (k : ℕ) (b : Bool) → eqb k c.a0 ≡ b → eqb (cond b new (l.slot k)).phase 0 ≡ false → (cond b new (l.slot k)).fence.version ≤ 65534
      lv k true u e = let z : (l.slot c.a0).fence.version < 65534 = leb-false 65534 (l.slot c.a0).fence.version q.p13 in omega arith
      lv k false u e = s.lives k e

  by32 : Passed l t (call 32 c) → MarksIn (ledger l t (call 32 c))
  unfolding at_number
  by32 q = rw (left-slot l t c q) (record {
    marks = λ j k m e. rw (version k (is_in_slot k (l.hart c.hart).place)) (s.marks j k m (sym (mark j k (eqb j c.hart) refl) ∙ e));
    waits = λ j k. wt j k (is_in_slot k (l.hart c.hart).place) refl (eqb j c.hart) refl;
    lives = λ k. lv k (is_in_slot k (l.hart c.hart).place);
  })
    where
      h : ℕ
      h = c.hart

      new : Hart
      new = record { place = outside; mark = (l.hart h).mark }

      version : (k : ℕ) (b : Bool) → (left_slot l h k b).fence.version ≡ (l.slot k).fence.version
      version k true = refl
      version k false = refl

      mark : (j k : ℕ) (b : Bool) → eqb j h ≡ b → (cond b new (l.hart j)).mark k ≡ (l.hart j).mark k
      mark j k true u = ap (λ i. (l.hart i).mark k) (sym (eqb-true j h u))
      mark j k false u = refl

      lv : (k : ℕ) (b : Bool) → eqb (left_slot l h k b).phase 0 ≡ false → (left_slot l h k b).fence.version ≤ 65534
      lv k true e = s.lives k e
      lv k false e = s.lives k e

      wt : (j k : ℕ) (b : Bool) → is_in_slot k (l.hart h).place ≡ b → (d : Bool) → eqb j h ≡ d → (left_slot l h k b).fence.awaited j ≡ true
          → (is_in_slot k (cond d new (l.hart j)).place ≡ true) × (flushes ((cond d new (l.hart j)).mark k) (left_slot l h k b).fence.version ≡ true)
      wt j k true u true v w = absurd (false≢true (rw v at w))
      wt j k false u true v w = absurd (false≢true (sym u ∙ ap (λ i. is_in_slot k (l.hart i).place) (sym (eqb-true j h v)) ∙ (s.waits j k w).0))
      wt j k true u false v w = s.waits j k (rw v at w)
      wt j k false u false v w = s.waits j k w

  pub marks_kept : ByCall (λ n. Passed l t (call n c) → MarksIn (ledger l t (call n c)))
  unfolding at_number
  marks_kept = record {
    convert = λ p. s;
    reclaim = λ p. s;
    global-fence = λ p. s;
    local_fence = λ p. s;
    create = λ p. with-slot (taken l) _ refl (takes_open p);
    finalize = λ p. with-slot c.a0 _ refl (alive p.p2);
    destroy = by8;
    region = λ p. with-slot c.a0 _ refl (alive p.p2);
    pool = λ p. s;
    measured = λ p. s;
    zeros = λ p. s;
    vcpu = λ p. with-slot c.a0 _ refl (alive p.p2);
    enter = by15;
    tvm_fence = by16;
    invalidate = λ p. s;
    validate = λ p. s;
    remove = λ p. s;
    leave = by32;
    open_ledger = λ p. marks_first;
  }
