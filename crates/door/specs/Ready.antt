-- A call that is none of refusals 1 to 5, with the pages of its range.
use Rattle.std.specs.Prelude.{ℕ, ◌≡◌, List}
use Rattle.rules.specs.declared.Call.{Call}
use Rattle.rules.specs.Calls.{size}
use Rattle.rules.specs.Refusals.{early, lowest_of}
use Rattle.rules.specs.Encoding.{view, pages_of}

pub record Ready (ws b : List ℕ) (c : Call) (pages : ℕ) : Type 0 where
  pub sized : pages ≡ size c
  pub early_off : lowest_of 1 (early (view ws) (pages_of b) c) ≡ 0
