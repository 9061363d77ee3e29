-- `lines::text::Text::lay` meets its contract: the text stands in the part's place.
use Prim.Native.Nat.{◌+◌}
use mathlib.Core.Path.{◌≡◌, sym, ap, ◌∙◌}
use native.Mathlib.Omega.{arith}
use lib.ListN.{length}
use lib.Seq.{length-take-le}
use Rattle.lines.proofs.Writes.{laid}
use Rattle.lines.proofs.text.Text.lay.Goals as goal

pub returns : goal.returns
returns c =
    let a = c.args in
    let t = c.self.inside in
    let size : length a.self.now ≡ t.end = ap length (sym c.self.view_is) ∙ length-take-le t.end t.bytes (omega (arith, c.self.told, c.self.invariant)) in
    rw (c.copy_from_slice.ensures.after ∙ c.self.view_is)
    (laid a.self.now a.out.now a.at (a.at + t.end) (omega (arith, size)) (omega (arith, c.requires, size)))
