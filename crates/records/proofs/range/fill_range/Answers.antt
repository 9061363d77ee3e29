-- `records::range::fill_range` meets its contract: the part that `fill` wrote is the range.
-- Assumes nothing.
use Rattle.records.specs.Passes.{stepped}
use Rattle.records.proofs.WritePass.{part-written}
use Rattle.records.proofs.range.fill_range.Goals as goal

pub returns : goal.returns
returns c =
    let x = c.args in
    part-written x.t.now _ x.first x.count (stepped x.p x.step) c.requires.0 c.fill.ensures
