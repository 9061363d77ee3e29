use Prim.Native.Nat.{◌*◌}
use mathlib.Core.Path.{◌≡◌}
use native.Mathlib.Omega.{arith}
use Rattle.words.proofs.Stores.{stored_sizes}
use Rattle.words.proofs.sizes.open.Goals as goal

pub returns : goal.returns
returns c =
    let x = c.args in
    let harts : c.from_le_bytes.result ≡ 16777216 * x.harts = omega (arith, c.from_le_bytes.ensures) in
    stored_sizes c.clear.new.l c.put.new.l c.put-2.new.l x.harts x.pages c.clear.ensures (rw harts at c.put.ensures) c.put-2.ensures
