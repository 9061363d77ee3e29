use Rattle.rules.specs.Encoding.{view_of}
use Rattle.words.proofs.Stores.{stored_fence}
use Rattle.words.proofs.parts.set_fence.Goals as goal

pub returns : goal.returns
unfolding view_of
returns c =
    let n = c.number-k.ensures in
    stored_fence c.args.l.now c.put.new.l c.args.k (rw (← n.is) n.fits) (rw (c.upper-made.ensures, c.fence_word.ensures, n.is) at c.pack.ensures) (rw n.is at c.put.ensures)
