use Prim.Native.Nat.{ℕ}
use mathlib.Core.Path.{◌≡◌}
use mathlib.Core.Bool.{Bool, true, false}
use Rattle.std.proofs.Common.{rules}
use Rattle.std.proofs.lemmas.Iterator.{first_from_Range}
use Rattle.rules.specs.Refusals as n
use Rattle.rules.specs.Encoding.{view}
use Rattle.seats.proofs.Scans.{find_over}
use Rattle.seats.proofs.room.unused.Goals as goal

pub returns : goal.returns
returns c =
    let p : ℕ → Bool = n.unused ((view c.args.l.now).slot c.args.k) in
    find_over p 8 _ (first_from_Range _ _ _ _ (λ i. p i ≡ true) (λ i. p i ≡ false) c.find.ensures.ran (λ i f e. search rules) (λ i f e. search rules))
