use borrow.Author.Rules.{rules}
use native.Mathlib.Omega.{arith}
use lib.Pow.{pow_pos, pow_mono}
use mathlib.Core.Path.{refl}
use Rattle.sets.specs.Set.{full}
use Rattle.sets.proofs.Laws.{one_shl}
use Rattle.sets.proofs.first.Goals as goal

pub overflow_sub-result : goal.overflow_sub-result
overflow_sub-result c = rw (one_shl 16 c.args.n (search rules)) (omega (arith, pow_pos c.args.n))

pub overflow_cast-result-2 : goal.overflow_cast-result-2
overflow_cast-result-2 c = rw (one_shl 16 c.args.n (search rules)) (record { fits = omega (arith, pow_mono c.requires) })

pub returns : goal.returns
unfolding full
returns c = rw (one_shl 16 c.args.n (search rules)) refl
