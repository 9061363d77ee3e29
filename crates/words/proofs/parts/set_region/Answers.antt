use Prim.Native.Nat.{◌+◌, ◌*◌}
use mathlib.Core.Path.{◌∙◌, ap}
use Rattle.sets.specs.Terms.{put}
use Rattle.rules.specs.Encoding.{read, view_of}
use Rattle.rules.proofs.Views.{view-region}
use Rattle.words.proofs.parts.set_region.Goals as goal

pub returns : goal.returns
returns c =
    let x = c.args in
    let n = c.number.ensures in
    ap view_of (rw n.is at c.put-2.ensures ∙ ap (put (162 + (8 * x.k + x.i)) x.r.pages) (rw n.is at c.put.ensures)) ∙ view-region (read x.l.now) x.k x.r.first (rw (← n.is) n.fits) x.i x.r.pages c.requires
