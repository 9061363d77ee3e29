-- `lines::print::lines` meets its contract. The invariant: what is written so far, and what is still to come, is the whole.
use mathlib.Core.Path.{refl, ap}
use native.Mathlib.Omega.{arith}
use lib.ListN.{length}
use Rattle.lines.proofs.Writes.{kept}
use Rattle.lines.proofs.Sizes.{bad-size}
use Rattle.lines.proofs.Printing.{begun, more, ending, one_fits, small-number}
use Rattle.lines.proofs.print.lines.Goals as goal

pub loop-taken-init : goal.loop-taken-init
loop-taken-init c = (refl, begun c.args.tape.now c.args.out.now c.args.ledger.now c.args.table.now)

pub loop-taken-preserved : goal.loop-taken-preserved
loop-taken-preserved c =
    let i = c.loop-taken.invariant in
    let l = c.line.ensures in
    let text = rw (c.new-text.ensures, c.from.ensures) at l.0 in
    more i.0 i.1 c.in-Some.taken c.in-Some.ensures.steps c.answered-answer.ensures (rw text at c.lay-end.ensures)
    (omega (arith, ap length text, l.1, ap length c.new-text.ensures))

pub bad-requires : goal.bad-requires
bad-requires c =
    let g = c.loop-taken.invariant.1 in
    omega (arith, ap length c.new-last.ensures, bad-size c.loop-taken.number c.step.result (small-number g c.requires.0))

pub lay-requires : goal.lay-requires
lay-requires c =
    let g = c.loop-taken.invariant.1 in
    let text = rw c.new-last.ensures at c.bad.ensures in
    one_fits g c.requires.0 (length c.bad.new.self)
    (omega (arith, ap length text, bad-size c.loop-taken.number c.step.result (small-number g c.requires.0))) c.requires.1

pub returns : goal.returns
returns c =
    let i = c.loop-taken.invariant in
    let g = i.1 in
    let text = rw c.new-last.ensures at c.bad.ensures in
    let size = bad-size c.loop-taken.number c.step.result (small-number g c.requires.0) in
    let fits = one_fits g c.requires.0 (length c.bad.new.self) (omega (arith, ap length text, size)) c.requires.1 in (
      ending i.0 g c.step.result c.in_default.ensures.steps c.step.ensures (rw text at c.lay.ensures),
      omega (arith, c.lay.ensures.place, fits, kept g.written),
    )
