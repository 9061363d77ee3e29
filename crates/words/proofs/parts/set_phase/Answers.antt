use mathlib.Core.Path.{◌∙◌, ap}
use Rattle.rules.specs.Encoding.{read, view_of}
use Rattle.rules.proofs.Views.{view-phase}
use Rattle.words.proofs.parts.set_phase.Goals as goal

pub returns : goal.returns
returns c =
    let n = c.number.ensures in
    ap view_of (rw n.is at c.put.ensures) ∙ view-phase (read c.args.l.now) c.args.k c.args.phase (rw (← n.is) n.fits)
