use native.Mathlib.Omega.{arith}
use borrow.Author.Tests.{eq-eqb, ne_eqb}
use Rattle.rules.specs.Encoding.{view_of}
use Rattle.words.proofs.parts.place_of.Goals as goal

pub returns-in_err-at : goal.returns-in_err-at
unfolding view_of
returns-in_err-at c = rw (c.from_residual.ensures, ← c.in_part-x.ensures, eq-eqb c.in_part-x.result 0 (omega (arith, c.in_err-at.ensures)))

pub returns : goal.returns
unfolding view_of
returns c =
    rw (← c.in_part-x.ensures, ne_eqb c.in_part-x.result 0 (λ e. omega (arith, c.in_ok-at.ensures.0)), c.in_ok-at.ensures.1)
