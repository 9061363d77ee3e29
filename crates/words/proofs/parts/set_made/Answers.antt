use Rattle.words.proofs.Stores.{stored_fence}
use Rattle.words.proofs.parts.set_made.Goals as goal

pub returns : goal.returns
returns c =
    let n = c.number.ensures in
    stored_fence c.args.l.now c.put.new.l c.args.k (rw (← n.is) n.fits) c.pack.ensures (rw n.is at c.put.ensures)
