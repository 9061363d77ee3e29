-- `records::table::take_back` meets its contract: a pass that writes the records of the slot.
-- Assumes nothing.
use Prim.Native.Nat.{ℕ}
use mathlib.Core.Path.{◌≡◌, sym, ◌∙◌, ap}
use mathlib.Core.Bool.{Bool}
use native.Mathlib.Omega.{arith}
use Rattle.rules.specs.declared.Page.{Page}
use Rattle.rules.specs.Page.{page}
use Rattle.rules.specs.Encoding.{pages_of}
use Rattle.records.proofs.WritePass.{pass_put, pass_skip, at_hand, pass_end}
use Rattle.records.proofs.Bytes.{page_past}
use Rattle.records.proofs.table.take_back.Invariants.{given}
use Rattle.records.proofs.table.take_back.Goals as goal
use Rattle.records.proofs.table.take_back.Goals.{then-is_given, else-is_given}

pub loop-i-preserved : goal.loop-i-preserved
loop-i-preserved c =
    let x = c.args in
    let T = pages_of x.t.now in
    let which : ℕ → Bool = λ j. given x.slot (T.page j) in
    let new : ℕ → Page = λ j. page 2 0 0 0 in
    let here = c.is_given.ensures ∙ ap (given x.slot) (c.read.ensures ∙ at_hand T which new c.loop-i.i _ c.loop-i.invariant) in
    elim c.if-is_given.branch [
      | then-is_given w ↦ ap pages_of w.t-is ∙ w.write.ensures ∙ pass_put T which new c.loop-i.i _ c.loop-i.invariant (sym here ∙ w.if-is_given.true)
      | else-is_given w ↦ ap pages_of w.t-is ∙ pass_skip T which new c.loop-i.i _ c.loop-i.invariant (sym here ∙ w.if-is_given.false)
    ]

pub returns : goal.returns
returns c =
    let x = c.args in
    let e : c.loop-i.i ≡ x.n = omega arith in
    c.loop-i.invariant
    ∙ pass_end (pages_of x.t.now) _ _ c.loop-i.i (λ j l. ap (given x.slot) (page_past x.t.now j (omega (arith, c.requires))))
