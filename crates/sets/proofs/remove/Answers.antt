use Prim.Native.Nat.{◌<◌}
use mathlib.Core.Path.{◌∙◌, ap}
use native.Mathlib.Omega.{arith}
use Rattle.sets.specs.Set.{without}
use Rattle.sets.proofs.Laws.{one_shl, without-and}
use Rattle.sets.proofs.remove.Goals as goal

pub returns : goal.returns
returns g c =
    let k = c.args.k in
    let l : k < 64 = omega (arith, c.requires, g.met.S.Digits.in_word) in
    c.from_word.ensures ∙ rw (one_shl 64 k l) (without-and 64 c.word.result k c.word.type_inv l) ∙ ap (λ s. without s k) c.word.ensures.is
