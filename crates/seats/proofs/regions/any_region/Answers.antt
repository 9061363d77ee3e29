use Prim.Native.Nat.{ℕ}
use mathlib.Core.Path.{◌≡◌, refl}
use mathlib.Core.Bool.{Bool, true, false}
use Rattle.std.proofs.Common.{rules}
use Rattle.std.proofs.lemmas.Iterator.{YieldsList-from_range, cases_from_any}
use Rattle.rules.specs.Encoding.{view}
use Rattle.seats.proofs.Scans.{any_over}
use Rattle.seats.proofs.regions.any_region.Goals as goal

pub returns : goal.returns
returns g c = λ p tests.
    let q : ℕ → Bool = λ i. p (((view c.args.l.now).slot c.args.k).region i) in
    any_over q 8 _ (cases_from_any _ _ _ (λ i. q i ≡ true) (λ i. q i ≡ false) c.any.ensures.ran (YieldsList-from_range 0 8 8 refl refl) (λ i f e. search (rules, tests)) (λ i f e. search (rules, tests)))
