-- The code's trackers and marks as document 01's, and what beginning a fence and striking a hart out make of one.
use Rattle.std.proofs.Math.Option as math
use Rattle.std.specs.Prelude.{ℕ, ◌+◌, min, Option, Some, None}
use Rattle.sets.specs.Set.{without}
use Rattle.rules.specs.Fence as paper
use Rattle.rules.specs.Encoding.{bits}
use Rattle.fences.specs.declared.GlobalVersion.{GlobalVersion}
use Rattle.fences.specs.declared.TvmVersion.{TvmVersion}
use Rattle.fences.specs.declared.Tracker.{Tracker}

abbrev pub tracker_at : ℕ → ℕ → paper.Tracker
tracker_at version awaited = record { version = version; awaited = bits awaited }

-- a tracker of any sort of version: `number` and `numbered` are the sort's own
module _ {V : Type 0} (number : V → ℕ) where
  abbrev pub tracked : Tracker V → paper.Tracker
  tracked t = tracker_at (number t.version) t.awaited

  abbrev pub begun : (ℕ → V) → Tracker V → ℕ → Tracker V
  begun numbered t others = record { version = numbered (number t.version + 1); awaited = others }

abbrev pub struck : {V : Type 0} → Tracker V → ℕ → Tracker V
struck t hart = record { version = t.version; awaited = without t.awaited hart }

abbrev pub global_of : Tracker GlobalVersion → paper.Tracker
global_of t = tracker_at t.version.0 t.awaited

abbrev pub tvm_of : Tracker TvmVersion → paper.Tracker
tvm_of t = tracker_at t.version.0 t.awaited

abbrev pub mark_of : Option TvmVersion → math.Option ℕ
mark_of None = math.none
mark_of (Some v) = math.some v.0

-- "destroy adds 1 (65,535 stays)"
abbrev pub tvm_ended : Tracker TvmVersion → Tracker TvmVersion
tvm_ended t = record { version = record { 0 = min 65535 (t.version.0 + 1) }; awaited = t.awaited }
