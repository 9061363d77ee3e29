use mathlib.Core.Path.{◌∙◌, ap}
use Rattle.rules.specs.Encoding.{read, view_of}
use Rattle.rules.proofs.Views.{view-place}
use Rattle.words.proofs.parts.set_outside.Goals as goal

pub returns : goal.returns
returns c =
    let n = c.number.ensures in
    ap view_of (rw n.is at c.put.ensures) ∙ view-place (read c.args.l.now) c.args.h 0 (rw (← n.is) n.fits)
