-- A fence's tracker against a watch on one recorded version: what beginning a fence and striking a hart out do to both.
-- Assumes nothing.
use Prim.Native.Nat.{ℕ, ◌+◌, ◌≤◌}
use mathlib.Core.Path.{◌≡◌, refl, sym, ◌∙◌}
use mathlib.Core.Bool.{Bool, true, false, cond, not, ◌&&◌, true≢false}
use native.Mathlib.Omega.{arith}
use lib.Dec.{eqb}
use borrow.Author.Tests.{lt-leb, le-leb, ne_eqb, eq-eqb}
use Rattle.sets.specs.Terms.{put}
use Rattle.sets.proofs.Looks.{any_at, any_off, any_ext}
use Rattle.rules.specs.declared.Page.{Page}
use Rattle.rules.specs.Fence.{Harts, Tracker, someone, done, begin, strike}

-- no fence since; one, whose awaited harts are those owing; more, and nobody is owing
pub data Inv (r : ℕ) (f : Tracker) (begun : Bool) (owing : Harts) : Type 0 where
  before : begun ≡ false → f.version ≡ r → Inv r f begun owing
  during : begun ≡ true → f.version ≡ r + 1 → ((j : ℕ) → f.awaited j ≡ owing j) → Inv r f begun owing
  past : begun ≡ true → r + 2 ≤ f.version → someone owing ≡ false → Inv r f begun owing

pub inv_done : (r : ℕ) (f : Tracker) (b : Bool) (w : Harts) → Inv r f b w → done f r ≡ (b && not (someone w))
inv_done r f b w (before e v) = rw (e, lt-leb (r + 2) f.version (omega arith), ne_eqb f.version (r + 1) (omega arith))
inv_done r f b w (during e v s) =
    rw (e, lt-leb (r + 2) f.version (omega arith), eq-eqb f.version (r + 1) v, any_ext f.awaited w 8 (λ j l. s j))
inv_done r f b w (past e v s) = rw (e, s, le-leb (r + 2) f.version v)

pub inv_begin : (r : ℕ) (f : Tracker) (b : Bool) (w who who' : Harts) → ((j : ℕ) → who j ≡ who' j)
    → someone f.awaited ≡ false → Inv r f b w → Inv r (begin who f) true (cond b w who')
inv_begin r f b w who who' same none (before e v) = rw e (during refl (omega arith) same)
inv_begin r f b w who who' same none (during e v s) = rw e (past refl (omega arith) (sym (any_ext f.awaited w 8 (λ j l. s j)) ∙ none))
inv_begin r f b w who who' same none (past e v s) = rw e (past refl (omega arith) s)

put_same : (h : ℕ) (v w : Harts) → ((j : ℕ) → v j ≡ w j) → (j : ℕ) → put h false v j ≡ put h false w j
put_same h v w e j = rw (e j)

none_put : (h : ℕ) (w : Harts) → someone w ≡ false → someone (put h false w) ≡ false
none_put h w e = any_off (put h false w) 8 (λ j l. go j (eqb j h) (any_at w 8 j e l))
  where
    go : (j : ℕ) (b : Bool) → w j ≡ false → cond b false (w j) ≡ false
    go j true q = refl
    go j false q = q

pub inv_strike : (r : ℕ) (f : Tracker) (b : Bool) (w : Harts) (h : ℕ) → Inv r f b w → Inv r (strike h f) b (put h false w)
inv_strike r f b w h (before e v) = before e v
inv_strike r f b w h (during e v s) = during e v (put_same h f.awaited w s)
inv_strike r f b w h (past e v s) = past e v (none_put h w s)

-- a record that is of the kind m after a call, where what is written is not, is as it was
pub unwritten : (m : ℕ) (b : Bool) (q old : Page) → (b ≡ true → eqb q.kind m ≡ false) → eqb (cond b q old).kind m ≡ true → (b ≡ false) × (cond b q old ≡ old)
unwritten m true q old f e = absurd (true≢false (sym e ∙ f refl))
unwritten m false q old f e = (refl, refl)
