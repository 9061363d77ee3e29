-- Document 01, "Fences".
use Rattle.std.specs.Prelude.{ℕ, ◌+◌, Bool, false, not, ◌&&◌, ◌||◌, leb, eqb}
use Rattle.sets.specs.Terms.{put}
use Rattle.sets.specs.Look.{any, count}

-- a set of harts, of which there are at most 8
abbrev pub Harts : Type 0
Harts = ℕ → Bool

abbrev pub someone : Harts → Bool
someone w = any w 8

abbrev pub number : Harts → ℕ
number w = count w 8

-- the present version, and the harts that are still awaited
pub record Tracker : Type 0 where
  pub version : ℕ
  pub awaited : Harts

-- "Beginning a fence adds 1 and sets the awaited harts"
abbrev pub begin : Harts → Tracker → Tracker
begin w t = record { version = t.version + 1; awaited = w }

-- "A local fence strikes that hart out globally; leaving a TVM, for that TVM."
abbrev pub strike : ℕ → Tracker → Tracker
strike h t = record { version = t.version; awaited = put h false t.awaited }

-- "A version recorded as r is done when the present version is at least r + 2, or is r + 1 with no hart awaited."
abbrev pub done : Tracker → ℕ → Bool
done t r = leb (r + 2) t.version || eqb t.version (r + 1) && not (someone t.awaited)
