-- A hart that there is not is nowhere; and conditions that only some calls have.
-- Assumes nothing.
use Prim.Native.Nat.{ℕ, ◌≤◌}
use mathlib.Core.Path.{◌≡◌, refl, sym}
use mathlib.Core.Bool.{Bool, true, false, ◌&&◌, ◌||◌}
use mathlib.Core.List.{List}
use lib.Dec.{eqb}
use borrow.Author.Tests.{le-ltb}
use Rattle.std.specs.Prelude.{Option, None, Some}
use Rattle.sets.proofs.Bools.{or_false}
use Rattle.rules.specs.Encoding.{view, view_of}
use Rattle.seats.specs.Harts.{there_of}

pub far_outside : (ws : List ℕ) (k : ℕ) (vcpu : Option ℕ) (j : ℕ) → 8 ≤ j → there_of (view ws) k vcpu j ≡ false
unfolding view_of
far_outside ws k None j h = rw (le-ltb j 8 h)
far_outside ws k (Some v) j h = rw (le-ltb j 8 h)

-- ---- conditions of one call, by its number
-- the conditions of two calls, k and j
module _ (k j n : ℕ) (a b : Bool) where
  pub at_first : eqb k k ≡ true → eqb k j ≡ false → n ≡ k → a ≡ (eqb n k && a || eqb n j && b)
  at_first s d e = rw (e, s, d) (sym (or_false a))

  pub at_second : eqb j j ≡ true → eqb j k ≡ false → n ≡ j → b ≡ (eqb n k && a || eqb n j && b)
  at_second s d e = rw (e, s, d)

-- a test before three
pub before_three : (x a b d : Bool) → (x || (a || b || d)) ≡ (x || a || b || d)
before_three true a b d = refl
before_three false a b d = refl
