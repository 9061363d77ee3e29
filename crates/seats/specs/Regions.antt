-- What a closure asks of a region.
use Rattle.std.specs.Prelude.{Bool, ◌≡◌}
use Rattle.rules.specs.Ledger.{Region as Described}
use Rattle.words.specs.declared.parts.Region.{Region}
use Rattle.words.specs.Parts.{region_of}

-- its answer is that of the test
abbrev pub Tests : (Region → Bool → Type 0) → (Described → Bool) → Type 0
Tests post p = (g : Region) (x : Bool) → post g x → x ≡ p (region_of g)
