-- The code's trackers move as document 01's do, and one of the paper's trackers is one of the code's.
-- Assumes nothing.
use Prim.Native.Nat.{ℕ, ◌+◌, ◌<◌, ◌^◌}
use mathlib.Core.Path.{◌≡◌, refl, ap}
use mathlib.Core.Bool.{Bool}
use Rattle.sets.specs.Set.{without}
use Rattle.sets.proofs.Laws.{ext}
use Rattle.rules.specs.Fence as paper
use Rattle.rules.specs.Fence.{begin, strike}
use Rattle.rules.specs.Encoding.{bits}
use Rattle.rules.proofs.HartSets.{bits-without}
use Rattle.fences.specs.declared.GlobalVersion.{GlobalVersion}
use Rattle.fences.specs.declared.TvmVersion.{TvmVersion}
use Rattle.fences.specs.declared.Tracker.{Tracker}
use Rattle.fences.specs.Trackers.{tracker_at, tracked, begun, struck, global_of, tvm_of}

-- over the two numbers
strike_at : (v w h : ℕ) → tracker_at v (without w h) ≡ strike h (tracker_at v w)
strike_at v w h = ap (λ (a : ℕ → Bool). record { version = v; awaited = a }) (bits-without w h)

pub same_tracker : (v w u x : ℕ) → w < 2 ^ 8 → x < 2 ^ 8 → tracker_at v w ≡ tracker_at u x → (v ≡ u) × (w ≡ x)
same_tracker v w u x hw hx e = (ap (λ (t : paper.Tracker). t.version) e, ext 8 w x hw hx (λ k l. ap (λ (t : paper.Tracker). t.awaited k) e))

-- over any sort of version that has the number which it is made with
module _ {V : Type 0} (number : V → ℕ) where
  pub tracker_begin : (numbered : ℕ → V) → ((n : ℕ) → number (numbered n) ≡ n) → (t : Tracker V) (w : ℕ)
      → tracked number (begun number numbered t w) ≡ begin (bits w) (tracked number t)
  tracker_begin numbered keeps t w = ap (λ (v : ℕ). tracker_at v w) (keeps (number t.version + 1))

  pub tracker_strike : (t : Tracker V) (h : ℕ) → tracked number (struck t h) ≡ strike h (tracked number t)
  tracker_strike t h = strike_at (number t.version) t.awaited h

-- and over the two that there are
pub global-begin : (t : Tracker GlobalVersion) (w : ℕ) → global_of (begun (λ v. v.0) (λ n. record { 0 = n }) t w) ≡ begin (bits w) (global_of t)
global-begin = tracker_begin (λ v. v.0) (λ n. record { 0 = n }) (λ n. refl)

pub global-strike : (t : Tracker GlobalVersion) (h : ℕ) → global_of (struck t h) ≡ strike h (global_of t)
global-strike = tracker_strike (λ v. v.0)

pub tvm_begin : (t : Tracker TvmVersion) (w : ℕ) → tvm_of (begun (λ v. v.0) (λ n. record { 0 = n }) t w) ≡ begin (bits w) (tvm_of t)
tvm_begin = tracker_begin (λ v. v.0) (λ n. record { 0 = n }) (λ n. refl)

pub tvm_strike : (t : Tracker TvmVersion) (h : ℕ) → tvm_of (struck t h) ≡ strike h (tvm_of t)
tvm_strike = tracker_strike (λ v. v.0)
