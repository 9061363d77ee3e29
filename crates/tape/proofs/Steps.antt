-- What is known where a good record stands at an offset, and where none does.
-- Assumes nothing.
use Prim.Native.Nat.{ℕ, ◌+◌, ◌-◌, ◌≤◌, ◌<◌}
use mathlib.Core.Path.{◌≡◌, refl, ap, ◌∙◌}
use mathlib.Core.List.{List, [], ◌++◌}
use mathlib.Core.Bool.{Bool, true, false, cond, ◌&&◌}
use native.Mathlib.Nat.{add-zero}
use native.Mathlib.Omega.{arith}
use lib.Dec.{ltb, leb, eqb}
use lib.ListN.{length, get_or, take, drop, length-append, length-take, length-drop}
use lib.Seq.{drop-append-add, get_or-append-add}
use borrow.Author.Tests.{le-leb, lt-leb, le-ltb, leb-true, leb-false, ltb-false}
use Rattle.sets.proofs.Bools.{iff}
use Rattle.tape.specs.declared.record.Step.{Step}
use Rattle.tape.specs.declared.record.Step.TheVariants.{End, Short, Mark, Record}
use Rattle.tape.specs.Tape.{marked, step_at, part_of, args_at}
use Rattle.tape.specs.Promises.{Stops, Passed}

-- of the good record at an offset of n bytes: what its four first bytes are, and where it ends
pub record Good (n at next : ℕ) (mark : Bool) (call hart c h : ℕ) : Type 0 where
  pub next_at : next ≡ at + 52
  pub within : at + 52 ≤ n
  pub is-marked : mark ≡ true
  pub call_at : call ≡ c
  pub hart_at : hart ≡ h

module _ (n at c h call hart next : ℕ) where
  good_by : (b₁ b₂ b₃ : Bool) → leb n at ≡ b₁ → ltb (n - at) 52 ≡ b₂ → cond b₁ End (cond b₂ Short (cond b₃ (Record c h (at + 52)) Mark)) ≡ Record call hart next
      → Good n at next b₃ call hart c h
  good_by true b₂ b₃ e₁ e₂ p = let z : ◌≡◌ {A = ℕ} 0 1 = cc in absurd (omega arith)
  good_by false true b₃ e₁ e₂ p = let z : ◌≡◌ {A = ℕ} 0 1 = cc in absurd (omega arith)
  good_by false false false e₁ e₂ p = let z : ◌≡◌ {A = ℕ} 0 1 = cc in absurd (omega arith)
  good_by false false true e₁ e₂ p =
      record { next_at = cc; within = omega (arith, leb-false n at e₁, ltb-false (n - at) 52 e₂); is-marked = refl; call_at = cc; hart_at = cc }

module _ (s : List ℕ) (at call hart next : ℕ) (p : step_at s at ≡ Record call hart next) where
  pub good : Good (length s) at next (marked s at) call hart (get_or s (at + 2) 0) (get_or s (at + 3) 0)
  good = good_by (length s) at (get_or s (at + 2) 0) (get_or s (at + 3) 0) call hart next (leb (length s) at) (ltb (length s - at) 52) (marked s at) refl refl p

  pub args_good : args_at s at ≡ take 48 (drop (at + 4) s)
  args_good = ap (λ (t : Step). part_of t (take 48 (drop (at + 4) s))) p

  -- a good record has its 48 argument bytes
  pub args_long : length (args_at s at) ≡ 48
  args_long = let g = good in ap length args_good ∙ simp (length-take, length-drop) (omega arith)

-- the other way: 52 bytes with the mark are a good record
pub is_good : (s : List ℕ) (at : ℕ) → at + 52 ≤ length s → marked s at ≡ true → step_at s at ≡ Record (get_or s (at + 2) 0) (get_or s (at + 3) 0) (at + 52)
is_good s at l m = rw (lt-leb (length s) at (omega arith), le-ltb (length s - at) 52 (omega arith), m)

pub passed : Passed
passed s at call hart next p = let g = good s at call hart next p in (g.next_at, omega arith)

-- where fewer than 52 bytes are left no good record stands
pub none_left : (s : List ℕ) (at : ℕ) → length s < at + 52 → Stops (step_at s at)
none_left s at l = go (step_at s at) refl
  where
    go : (r : Step) → step_at s at ≡ r → Stops r
    go End p = tt
    go Short p = tt
    go Mark p = tt
    go (Record call hart next) p = let g = good s at call hart next p in omega arith

-- ---- behind a front
abbrev pub moved : ℕ → Step → Step
moved m End = End
moved m Short = Short
moved m Mark = Mark
moved m (Record call hart next) = Record call hart (m + next)

moved_by : (b₁ b₂ b₃ : Bool) (m call hart next : ℕ)
    → cond b₁ End (cond b₂ Short (cond b₃ (Record call hart (m + next)) Mark)) ≡ moved m (cond b₁ End (cond b₂ Short (cond b₃ (Record call hart next) Mark)))
moved_by true b₂ b₃ m call hart next = refl
moved_by false true b₃ m call hart next = refl
moved_by false false false m call hart next = refl
moved_by false false true m call hart next = refl

pub moved_stop : (m : ℕ) (t : Step) → Stops t → moved m t ≡ t
moved_stop m End k = refl
moved_stop m Short k = refl
moved_stop m Mark k = refl
moved_stop m (Record call hart next) k = absurd k

moved-part : (m : ℕ) (t : Step) (part : List ℕ) → part_of (moved m t) part ≡ part_of t part
moved-part m End part = refl
moved-part m Short part = refl
moved-part m Mark part = refl
moved-part m (Record call hart next) part = refl

front_test : (m k n : ℕ) → n ≡ m + k → leb n m ≡ leb k 0
front_test m k n e = iff (leb n m) (leb k 0) (λ b. le-leb k 0 (omega (arith, leb-true n m b))) (λ b. le-leb n m (omega (arith, leb-true k 0 b)))

-- what stands after a front is what stands at the start without it
module _ (front rest : List ℕ) where
  pub step_after : step_at (front ++ rest) (length front) ≡ moved (length front) (step_at rest 0)
  step_after =
      let m = length front in
      let n = length (front ++ rest) in
      let long = length-append front rest in
      let e₁ = front_test m (length rest) n long in
      let left : n - m ≡ length rest - 0 = omega arith in
      let b₀ : get_or (front ++ rest) m 0 ≡ get_or rest 0 0 = rw add-zero at (get_or-append-add front rest 0 0) in
      let b : (i : ℕ) → get_or (front ++ rest) (m + i) 0 ≡ get_or rest i 0 = λ i. get_or-append-add front rest i 0 in
      (λ x. cond (e₁ x) End (cond (ltb (left x) 52) Short (cond (eqb (b₀ x) 67 && eqb (b 1 x) 86) (Record (b 2 x) (b 3 x) (m + 52)) Mark)))
      ∙ moved_by (leb (length rest) 0) (ltb (length rest - 0) 52) (marked rest 0) m (get_or rest 2 0) (get_or rest 3 0) 52

  pub args_after : args_at (front ++ rest) (length front) ≡ args_at rest 0
  args_after =
      (λ x. part_of (step_after x) (take 48 (drop-append-add front rest 4 x))) ∙ moved-part (length front) (step_at rest 0) (take 48 (drop 4 rest))
