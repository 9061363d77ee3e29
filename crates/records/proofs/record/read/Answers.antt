-- `records::record::read` meets its contract: the library weighs each byte on its other side.
-- Assumes nothing.
use Prim.Native.Nat.{◌*◌}
use mathlib.Core.Path.{◌≡◌}
use native.Mathlib.Omega.{arith}
use Rattle.rules.specs.Page.{page}
use Rattle.rules.specs.Encoding.{page_at, pages_of}
use Rattle.records.proofs.record.read.Goals as goal

pub returns : goal.returns
unfolding pages_of
returns c =
    let p = page_at c.args.t.now (8 * c.args.i) in
    let v : c.from_le_bytes.result ≡ p.version = omega (arith, c.from_le_bytes.ensures) in
    let g : c.from_le_bytes-2.result ≡ p.guest = omega (arith, c.from_le_bytes-2.ensures) in
    λ x. page p.kind p.slot (v x) (g x)
