-- `records::guest::look` meets its contract: the invariant is `Looked`, and each way through a turn is one of its laws.
-- Assumes nothing.
use Prim.Native.Nat.{◌<◌}
use mathlib.Core.Path.{◌≡◌, refl, sym, ◌∙◌}
use native.Mathlib.Omega.{arith}
use Rattle.rules.specs.Encoding.{pages_of}
use Rattle.fences.specs.Trackers.{tvm_of}
use Rattle.records.proofs.GuestLook.{looked_none, turn_first, turn_other, turn_room, turn_bad, looked_short, looked_full}
use Rattle.records.proofs.guest.look.Goals as goal
use Rattle.records.proofs.guest.look.Goals.{then-is_first+else-p-kind+else-missing-eq0, else-is_first}

pub loop-i-init : goal.loop-i-init
loop-i-init c = rw c.new-seen.ensures (looked_none _ _ _ _ _ _ _)

pub returns-then-p-kind : goal.returns-then-p-kind
returns-then-p-kind c =
    let x = c.args in
    let first = c.is_first in
    turn_bad (pages_of x.t.now) x.n x.slot x.first x.count x.kind (tvm_of x.fence) c.requires.2 c.loop-i.i c.loop-i.seen _ _ _
    c.loop-i-test.true c.loop-i.invariant _ _ c.read-p.ensures first.ensures.1
    (sym first.ensures.0 ∙ c.if-is_first.true) c.if-p-kind.true

pub overflow_sub-missing : goal.overflow_sub-missing
overflow_sub-missing c =
    let x = c.args in
    let first = c.is_first in
    let some : 0 < c.loop-i.missing =
    turn_room (pages_of x.t.now) x.n x.slot x.first x.count x.kind (tvm_of x.fence) c.requires.2 c.loop-i.i c.loop-i.seen _ _ _ c.loop-i-test.true c.loop-i.invariant _ _ c.read-p.ensures
    first.ensures.1 (sym first.ensures.0 ∙ c.if-is_first.true) in
    omega arith

pub returns-then-missing-eq0 : goal.returns-then-missing-eq0
returns-then-missing-eq0 c =
    let x = c.args in
    let first = c.is_first in
    looked_full (pages_of x.t.now) x.n x.slot x.first x.count x.kind (tvm_of x.fence) _ _ _ _ _
    (turn_first (pages_of x.t.now) x.n x.slot x.first x.count x.kind (tvm_of x.fence) c.requires.2 c.loop-i.i c.loop-i.seen _ _ _ c.loop-i-test.true c.loop-i.invariant _ _ c.read-p.ensures
    first.ensures.1 _ _ _ (sym first.ensures.0 ∙ c.if-is_first.true) c.if-p-kind.false refl
    c.with_undone-undone.ensures c.with_cut-cut.ensures)
    c.if-missing-eq0.true

pub loop-i-preserved : goal.loop-i-preserved
loop-i-preserved c =
    let x = c.args in
    let T = pages_of x.t.now in
    let first = c.is_first in
    let here = c.loop-i-test.true in
    let read = c.read-p.ensures in
    elim c.if-is_first.branch [
      | then-is_first+else-p-kind+else-missing-eq0 w ↦ turn_first T x.n x.slot x.first x.count x.kind (tvm_of x.fence) c.requires.2 c.loop-i.i c.loop-i.seen _ _ _ here c.loop-i.invariant _ _ read
          first.ensures.1 _ _ _ (sym first.ensures.0 ∙ w.if-is_first.true) w.if-p-kind.false w.missing-is (w.undone-is ∙ w.with_undone-undone.ensures)
          (w.cut-is ∙ w.with_cut-cut.ensures)
      | else-is_first w ↦ turn_other T x.n x.slot x.first x.count x.kind (tvm_of x.fence) c.requires.2 c.loop-i.i c.loop-i.seen _ _ _ here c.loop-i.invariant _ _ read
          first.ensures.1 _ _ _ (sym first.ensures.0 ∙ w.if-is_first.false) w.missing-is w.undone-is w.cut-is
    ]

pub returns-then-missing-eq0-2 : goal.returns-then-missing-eq0-2
returns-then-missing-eq0-2 c = looked_full _ _ _ _ _ _ _ _ _ _ _ _ c.loop-i.invariant c.if-missing-eq0-2.true

pub returns-else-missing-eq0-2 : goal.returns-else-missing-eq0-2
returns-else-missing-eq0-2 c =
    let e : c.loop-i.i ≡ c.args.n = omega (arith, c.loop-i.invariant.upto) in
    looked_short _ _ _ _ _ _ _ _ _ _ _ _ c.loop-i.invariant e c.if-missing-eq0-2.false
