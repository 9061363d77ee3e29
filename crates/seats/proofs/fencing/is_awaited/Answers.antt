use mathlib.Core.Path.{◌∙◌, ap}
use mathlib.Core.Bool.{not}
use borrow.Author.Rules.{rules}
use Rattle.sets.proofs.Bools.{not-not}
use Rattle.rules.proofs.HartSets.{nobody}
use Rattle.seats.proofs.fencing.is_awaited.Goals as goal

pub returns : goal.returns
returns c = ap not (nobody c.args.awaited (search rules)) ∙ not-not _
