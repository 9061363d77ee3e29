-- `lines::text::digits` meets its contract: the digit alone, or all digits but the last, and the last.
use Prim.Native.Nat.{◌/◌, ◌%◌, ◌+◌}
use mathlib.Core.Path.{ap, ◌∙◌}
use mathlib.Core.List.{[], ◌∷◌}
use native.Mathlib.Omega.{arith}
use lib.ListN.{length, length-append}
use Rattle.lines.specs.Text.{decimal as text_decimal}
use Rattle.lines.proofs.Writes.{joined, kept}
use Rattle.lines.proofs.Decimals.{one_digit, more_digits}
use Rattle.lines.proofs.text.+digits.Goals as goal

pub put-requires : goal.put-requires
put-requires t c = omega (arith, c.requires, ap length (one_digit c.args.n c.if-n-lt10.true))

pub digits-end-requires : goal.digits-end-requires
digits-end-requires t c =
    let n = c.args.n in
    let l = ap length (more_digits n c.if-n-lt10.false) ∙ length-append (text_decimal (n / 10)) ((48 + n % 10) ∷ []) in
    (omega (arith, c.decreases), omega (arith, c.requires, l))

pub put-requires-else-n-lt10 : goal.put-requires-else-n-lt10
put-requires-else-n-lt10 t c =
    let n = c.args.n in
    let w = c.digits-end.ensures in
    let l = ap length (more_digits n c.if-n-lt10.false) ∙ length-append (text_decimal (n / 10)) ((48 + n % 10) ∷ []) in
    omega (arith, c.requires, l, w.place, kept w)

pub returns-then-n-lt10 : goal.returns-then-n-lt10
returns-then-n-lt10 t c = rw (one_digit c.args.n c.if-n-lt10.true, ← c.ones.ensures) c.put.ensures

pub returns-else-n-lt10 : goal.returns-else-n-lt10
returns-else-n-lt10 t c =
    rw (more_digits c.args.n c.if-n-lt10.false, ← c.ones-else-n-lt10.ensures) (joined c.digits-end.ensures c.put-else-n-lt10.ensures)
