-- `lines::text::Text::decimal` meets its contract: the digits stand after what stood in the room.
use Prim.Native.Nat.{ℕ}
use mathlib.Core.Path.{◌≡◌, sym, ap, ◌∙◌}
use mathlib.Core.List.{List, ◌++◌}
use native.Mathlib.Omega.{arith}
use lib.ListN.{length}
use lib.Seq.{length-take-le}
use Rattle.lines.specs.Text.{decimal as text_decimal}
use Rattle.lines.proofs.Writes.{up_to}
use Rattle.lines.proofs.text.Text.decimal.Goals as goal

pub returns : goal.returns
returns c =
    let t = c.self.inside in
    let size : length c.args.self.now ≡ t.end = ap length (sym c.self.view_is) ∙ length-take-le t.end t.bytes (omega (arith, c.self.told, c.self.invariant)) in
    up_to c.digits-self-inside.ensures (omega (arith, c.requires, size, c.self.told)) ∙ ap (λ (l : List ℕ). l ++ text_decimal c.args.n) c.self.view_is
