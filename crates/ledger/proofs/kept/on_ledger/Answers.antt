use mathlib.Core.Path.{sym, ◌∙◌}
use native.Mathlib.Omega.{arith}
use borrow.Author.Tests.{eqb-true}
use Rattle.sets.specs.Terms.{one_of, one_from}
use Rattle.rules.specs.declared.Role.TheVariants.{Tvm, Vcpu}
use Rattle.rules.specs.Calls.{entry_of}
use Rattle.rules.proofs.CallTable.{named_at}
use Rattle.ledger.proofs.Lawful.{tvm_low, vcpu_low, hart-small, harts-small, global-version, slot-version, slot_free, is-inside}
use Rattle.ledger.proofs.ByNumber.{kept, call_3, call_4, call_5, call_15, call_16, call_32}
use Rattle.ledger.proofs.kept.on_ledger.Goals as goal

pub new-requires : goal.new-requires
new-requires c = (omega arith, rw c.hart-hart.ensures (hart-small _ c.args.r.now c.requires.0 (rw (eqb-true _ 3 (sym c.is.ensures ∙ c.if-is.true)))))

pub global_fence-requires : goal.global_fence-requires
global_fence-requires c =
    let p = c.requires.0 in
    let q = c.args.r.now in
    let e = (eqb-true _ 3 (sym c.is.ensures ∙ c.if-is.true)) in
    (harts-small _ q p (rw e), global-version _ q p e)

pub new-requires-then-is-2 : goal.new-requires-then-is-2
new-requires-then-is-2 c = (omega arith, rw c.hart-hart.ensures (hart-small _ c.args.r.now c.requires.0 (rw (eqb-true _ 4 (sym c.is-else-is.ensures ∙ c.if-is-2.true)))))

pub create-requires : goal.create-requires
create-requires c = slot_free _ c.args.r.now c.requires.0 (eqb-true _ 5 (sym c.is-else-is-2.ensures ∙ c.if-is-3.true))

pub new-requires-then-is-4 : goal.new-requires-then-is-4
new-requires-then-is-4 c = (omega arith, rw c.hart-hart.ensures (hart-small _ c.args.r.now c.requires.0 (rw (eqb-true _ 15 (sym c.is-else-is-3.ensures ∙ c.if-is-4.true)))))

pub new-requires-then-is-4-2 : goal.new-requires-then-is-4-2
unfolding entry_of one_of one_from
new-requires-then-is-4-2 c = (omega arith, rw (c.arg-tvm.ensures) (tvm_low _ c.args.r.now c.requires.0 (named_at 15 Tvm c.args.r.now (eqb-true _ 15 (sym c.is-else-is-3.ensures ∙ c.if-is-4.true)))))

pub new-requires-then-is-4-3 : goal.new-requires-then-is-4-3
unfolding entry_of one_of one_from
new-requires-then-is-4-3 c = (omega arith, rw (c.arg.ensures) (vcpu_low _ c.args.r.now c.requires.0 (named_at 15 Vcpu c.args.r.now (eqb-true _ 15 (sym c.is-else-is-3.ensures ∙ c.if-is-4.true)))))

pub new-requires-then-is-5 : goal.new-requires-then-is-5
unfolding entry_of one_of one_from
new-requires-then-is-5 c = (omega arith, rw (c.arg-tvm.ensures) (tvm_low _ c.args.r.now c.requires.0 (named_at 16 Tvm c.args.r.now (eqb-true _ 16 (sym c.is-else-is-4.ensures ∙ c.if-is-5.true)))))

pub tvm_fence-requires : goal.tvm_fence-requires
tvm_fence-requires c = rw (c.new-then-is-5.ensures, c.arg-tvm.ensures) (slot-version _ c.args.r.now c.requires.0 (eqb-true _ 16 (sym c.is-else-is-4.ensures ∙ c.if-is-5.true)))

pub new-requires-then-is-6 : goal.new-requires-then-is-6
new-requires-then-is-6 c = (omega arith, rw c.hart-hart.ensures (hart-small _ c.args.r.now c.requires.0 (rw (eqb-true _ 32 (sym c.is-else-is-5.ensures ∙ c.if-is-6.true)))))

pub leave-requires : goal.leave-requires
leave-requires c = rw (c.new-then-is-6.ensures, c.hart-hart.ensures) (is-inside _ c.args.r.now c.requires.0 (eqb-true _ 32 (sym c.is-else-is-5.ensures ∙ c.if-is-6.true)))

pub on_slots-requires : goal.on_slots-requires
unfolding one_of one_from
on_slots-requires c = (c.requires.0, c.requires.1, rw (sym c.is.ensures ∙ c.if-is.false, sym c.is-else-is.ensures ∙ c.if-is-2.false, sym c.is-else-is-2.ensures ∙ c.if-is-3.false, sym c.is-else-is-3.ensures ∙ c.if-is-4.false, sym c.is-else-is-4.ensures ∙ c.if-is-5.false, sym c.is-else-is-5.ensures ∙ c.if-is-6.false))

pub returns-then-is : goal.returns-then-is
returns-then-is c = kept _ _ (call_3 _ c.args.r.now (eqb-true _ 3 (sym c.is.ensures ∙ c.if-is.true))) (c.global_fence.ensures.0 ∙ rw (c.«new».ensures, c.hart-hart.ensures)) (c.global_fence.ensures.1 ∙ rw (c.«new».ensures, c.hart-hart.ensures))

pub returns-then-is-2 : goal.returns-then-is-2
returns-then-is-2 c = kept _ _ (call_4 _ c.args.r.now (eqb-true _ 4 (sym c.is-else-is.ensures ∙ c.if-is-2.true))) (c.local_fence.ensures.0 ∙ rw (c.new-then-is-2.ensures, c.hart-hart.ensures)) (c.local_fence.ensures.1 ∙ rw (c.new-then-is-2.ensures, c.hart-hart.ensures))

pub returns-then-is-3 : goal.returns-then-is-3
returns-then-is-3 c = kept _ _ (call_5 _ c.args.r.now (eqb-true _ 5 (sym c.is-else-is-2.ensures ∙ c.if-is-3.true))) c.create.ensures.0 c.create.ensures.1

pub returns-then-is-4 : goal.returns-then-is-4
returns-then-is-4 c = kept _ _ (call_15 _ c.args.r.now (eqb-true _ 15 (sym c.is-else-is-3.ensures ∙ c.if-is-4.true))) (c.enter.ensures.0 ∙ rw (c.new-then-is-4.ensures, c.new-then-is-4-2.ensures, c.hart-hart.ensures, c.arg-tvm.ensures)) (c.enter.ensures.1 ∙ rw (c.new-then-is-4.ensures, c.new-then-is-4-2.ensures, c.new-then-is-4-3.ensures, c.hart-hart.ensures, c.arg-tvm.ensures, c.arg.ensures))

pub returns-then-is-5 : goal.returns-then-is-5
returns-then-is-5 c = kept _ _ (call_16 _ c.args.r.now (eqb-true _ 16 (sym c.is-else-is-4.ensures ∙ c.if-is-5.true))) (c.tvm_fence.ensures.0 ∙ rw (c.new-then-is-5.ensures, c.arg-tvm.ensures)) (c.tvm_fence.ensures.1 ∙ rw (c.new-then-is-5.ensures, c.arg-tvm.ensures))

pub returns-then-is-6 : goal.returns-then-is-6
returns-then-is-6 c = kept _ _ (call_32 _ c.args.r.now (eqb-true _ 32 (sym c.is-else-is-5.ensures ∙ c.if-is-6.true))) (c.leave.ensures.0 ∙ rw (c.new-then-is-6.ensures, c.hart-hart.ensures)) (c.leave.ensures.1 ∙ rw (c.new-then-is-6.ensures, c.hart-hart.ensures))
