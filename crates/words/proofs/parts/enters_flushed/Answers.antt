use borrow.Author.Rules.{rules}
use mathlib.Core.Path.{◌∙◌}
use mathlib.Core.Bool.{not}
use lib.Dec.{eqb}
use Rattle.rules.specs.Encoding.{view_of}
use Rattle.words.proofs.Stores.{flushes_never, flushes_past, flushes_at}
use Rattle.words.proofs.parts.enters_flushed.Goals as goal

pub returns-then-x-eq0 : goal.returns-then-x-eq0
unfolding view_of
returns-then-x-eq0 c = rw (← c.cell-x.ensures) (c.flushes.ensures ∙ flushes_never _ _ c.if-x-eq0.true)

pub returns-in-Ok : goal.returns-in-Ok
unfolding view_of
returns-in-Ok c = rw (← c.cell-x.ensures) (c.flushes-in-Ok.ensures ∙ (λ i. not (eqb (c.in-Ok.ensures.1 i) c.args.version.0)) ∙ flushes_at _ _ c.if-x-eq0.false)

pub returns-in-Err : goal.returns-in-Err
unfolding view_of
returns-in-Err c = rw (← c.cell-x.ensures) (flushes_past _ _ c.in-Err.ensures (search rules))
