use Rattle.words.proofs.Stores.{stored_global}
use Rattle.words.proofs.parts.set_global.Goals as goal

pub returns : goal.returns
returns c =
    let x = c.args in
    stored_global x.l.now c.put.new.l (rw (c.upper-harts.ensures, c.word.ensures) at c.pack.ensures) c.put.ensures
