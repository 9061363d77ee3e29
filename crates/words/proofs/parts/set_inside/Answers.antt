use Rattle.words.proofs.Stores.{stored_inside}
use Rattle.words.proofs.parts.set_inside.Goals as goal

pub returns : goal.returns
returns c =
    let x = c.args in
    let h = c.number-h.ensures in
    let k = c.number-k.ensures in
    let v = c.number-v.ensures in
    stored_inside x.l.now c.put.new.l c.put-2.new.l x.h x.k x.v x.version.0 (rw (← h.is) h.fits) (rw (← k.is) k.fits) (rw (← v.is) v.fits) (rw (h.is, k.is, v.is) at c.put.ensures) (rw (h.is, k.is) at c.put-2.ensures)
