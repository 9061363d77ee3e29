use Rattle.sets.proofs.Laws.{count_ones}
use Rattle.sets.proofs.size.Goals as goal

pub returns : goal.returns
returns c = count_ones 8 c.args.s c.ranges.s.fits
