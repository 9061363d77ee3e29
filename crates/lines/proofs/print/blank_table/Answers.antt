-- `lines::print::blank_table` meets its contract.
use mathlib.Core.Path.{refl}
use Rattle.lines.specs.Lines.{zeros}
use Rattle.lines.proofs.print.blank_table.Goals as goal

pub returns : goal.returns
unfolding zeros
returns c = refl
