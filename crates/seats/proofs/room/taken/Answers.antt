use mathlib.Core.Path.{◌≡◌}
use mathlib.Core.Bool.{true, false}
use Rattle.std.proofs.Common.{rules}
use Rattle.std.proofs.lemmas.Iterator.{first_from_Range}
use Rattle.rules.specs.Refusals.{takeable, taken}
use Rattle.rules.specs.Encoding.{view}
use Rattle.seats.proofs.Scans.{find_over}
use Rattle.seats.proofs.room.taken.Goals as goal

pub returns : goal.returns
unfolding taken
returns c =
    let p = takeable (view c.args.l.now) in
    find_over p 16 _ (first_from_Range _ _ _ _ (λ k. p k ≡ true) (λ k. p k ≡ false) c.find.ensures.ran (λ k f e. search rules) (λ k f e. search rules))
