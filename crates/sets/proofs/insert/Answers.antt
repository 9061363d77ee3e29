use Prim.Native.Nat.{◌<◌}
use mathlib.Core.Path.{◌∙◌, ap}
use native.Mathlib.Omega.{arith}
use Rattle.sets.specs.Set.{with}
use Rattle.sets.proofs.Laws.{one_shl, with-or, with_lt}
use Rattle.sets.proofs.insert.Goals as goal

pub from_word-requires : goal.from_word-requires
from_word-requires g c =
    let k = c.args.k in
    let l : k < 64 = omega (arith, c.requires, g.met.S.Digits.in_word) in
    rw (one_shl 64 k l, with-or c.word.result k) (with_lt g.S.Digits.width c.word.result k c.requires c.word.ensures.fits)

pub returns : goal.returns
returns g c =
    let k = c.args.k in
    let l : k < 64 = omega (arith, c.requires, g.met.S.Digits.in_word) in
    c.from_word.ensures ∙ rw (one_shl 64 k l) (with-or c.word.result k) ∙ ap (λ s. with s k) c.word.ensures.is
