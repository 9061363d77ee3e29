-- How long a call's range is: its pages, and whether they are more than 4,096.
use Rattle.std.specs.Prelude.{ℕ, ◌*◌, ◌/◌, ◌^◌, ◌<◌, Bool, cond, ltb, eqb, ⊤}
use Rattle.rules.specs.declared.Call.{Call}
use Rattle.rules.specs.declared.Role.TheVariants.{UnitCount, UnitType, ByteLength}
use Rattle.rules.specs.Calls.{names, arg}
use Rattle.door.specs.declared.extent.Extent.{Extent}
use Rattle.door.specs.declared.extent.Extent.TheVariants.{Bytes, Units, OnePage}

-- what a call says of it
abbrev pub extent_of : Call → Extent
extent_of c =
    cond (names ByteLength c) (Bytes (arg ByteLength c))
    (cond (names UnitCount c) (Units (arg UnitCount c) (arg UnitType c)) OnePage)

-- "count is in units of the type"
abbrev pub size_by : Extent → ℕ
size_by (Bytes length) = length / 4096
size_by (Units count kind) = count * cond (eqb kind 1) 512 1
size_by OnePage = 1

-- more than 4,096 pages
abbrev pub long_by : Extent → Bool
long_by extent = ltb 4096 (size_by extent)

-- pages that are counted have a number that fits
abbrev pub Countable : Extent → Type 0
Countable (Bytes length) = ⊤
Countable (Units count kind) = count * cond (eqb kind 1) 512 1 < 2 ^ 64
Countable OnePage = ⊤
