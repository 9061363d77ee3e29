use borrow.Author.Rules.{rules}
use mathlib.Core.Path.{sym}
use lib.IntN.{pos}
use lib.ListN.{get_or-eq_default}
use Rattle.rules.specs.Step.{errors}
use Rattle.rules.proofs.tables.error_at.Goals as goal

pub returns-else-number-lt16 : goal.returns-else-number-lt16
returns-else-number-lt16 c = sym (get_or-eq_default errors (pos 0) {n = c.args.number} (search rules))
