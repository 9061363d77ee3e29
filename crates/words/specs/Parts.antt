-- A fence's word put together, and the code's regions and places as the paper's.
use Rattle.std.specs.Prelude.{ℕ, ◌+◌, ◌*◌, ◌<◌, ◌≡◌, Option, Some, None}
use Rattle.rules.specs.Ledger.{Region, Place, inside, outside}
use Rattle.words.specs.declared.parts.Region as Regions
use Rattle.words.specs.declared.parts.Seat.{Seat}

abbrev pub packed : ℕ → ℕ → ℕ → ℕ
packed version awaited above = version + 65536 * awaited + 16777216 * above

pub record Packed (version awaited above r : ℕ) : Type 0 where
  pub is : r ≡ packed version awaited above
  pub version-fits : version < 65536
  pub awaited-fits : awaited < 256
  pub above_fits : above < 256

abbrev pub region_of : Regions.Region → Region
region_of r = record { first = r.first; pages = r.pages }

abbrev pub place_is : Option Seat → Place
place_is None = outside
place_is (Some s) = inside s.slot s.vcpu
