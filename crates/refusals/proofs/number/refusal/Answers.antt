use mathlib.Core.Path.{sym, ◌∙◌}
use Rattle.sets.proofs.OneOf.{one_off}
use Rattle.rules.specs.Refusals.{refuses4}
use Rattle.refusals.proofs.number.refusal.Goals as goal

pub sized-pages-requires : goal.sized-pages-requires
unfolding refuses4
sized-pages-requires c = one_off _ (sym c.refuses4.ensures ∙ c.in_ok-unless-4.ensures) 5
