use mathlib.Core.Path.{refl, sym, ◌∙◌}
use native.Mathlib.Omega.{arith}
use borrow.Author.Tests.{eqb-true}
use borrow.Author.Rules.{rules}
use Rattle.sets.specs.Terms.{one_of, one_from}
use Rattle.rules.specs.declared.Role.TheVariants.{Tvm, Vcpu, GuestBase}
use Rattle.rules.specs.Calls.{entry_of}
use Rattle.rules.proofs.CallTable.{named_at}
use Rattle.ledger.proofs.Lawful.{tvm_low, vcpu_low, guests_low, region_free, opened-harts, opened-pages}
use Rattle.ledger.proofs.ByNumber.{kept, call_6, call_8, call_9, call_14, call_33, call_none}
use Rattle.ledger.proofs.kept.on_slots.Goals as goal

pub new-requires : goal.new-requires
unfolding entry_of one_of one_from
new-requires c = (omega arith, rw (c.arg-tvm.ensures) (tvm_low _ c.args.r.now c.requires.0 (named_at 6 Tvm c.args.r.now (eqb-true _ 6 (sym c.is.ensures ∙ c.if-is.true)))))

pub new-requires-then-is-2 : goal.new-requires-then-is-2
unfolding entry_of one_of one_from
new-requires-then-is-2 c = (omega arith, rw (c.arg-tvm.ensures) (tvm_low _ c.args.r.now c.requires.0 (named_at 8 Tvm c.args.r.now (eqb-true _ 8 (sym c.is-else-is.ensures ∙ c.if-is-2.true)))))

pub new-requires-then-is-3 : goal.new-requires-then-is-3
unfolding entry_of one_of one_from
new-requires-then-is-3 c = (omega arith, rw (c.arg-tvm.ensures) (tvm_low _ c.args.r.now c.requires.0 (named_at 9 Tvm c.args.r.now (eqb-true _ 9 (sym c.is-else-is-2.ensures ∙ c.if-is-3.true)))))

pub add_region-requires : goal.add_region-requires
unfolding entry_of one_of one_from
add_region-requires c =
    let p = c.requires.0 in
    let q = c.args.r.now in
    let e = (eqb-true _ 9 (sym c.is-else-is-2.ensures ∙ c.if-is-3.true)) in
    rw (c.new-then-is-3.ensures, c.arg-tvm.ensures, c.arg.ensures, c.requires.1) (guests_low _ q p (named_at 9 GuestBase q e), region_free _ q p e)

pub new-requires-then-is-4 : goal.new-requires-then-is-4
unfolding entry_of one_of one_from
new-requires-then-is-4 c = (omega arith, rw (c.arg-tvm.ensures) (tvm_low _ c.args.r.now c.requires.0 (named_at 14 Tvm c.args.r.now (eqb-true _ 14 (sym c.is-else-is-3.ensures ∙ c.if-is-4.true)))))

pub new-requires-then-is-4-2 : goal.new-requires-then-is-4-2
unfolding entry_of one_of one_from
new-requires-then-is-4-2 c = (omega arith, rw (c.arg-then-is-4.ensures) (vcpu_low _ c.args.r.now c.requires.0 (named_at 14 Vcpu c.args.r.now (eqb-true _ 14 (sym c.is-else-is-3.ensures ∙ c.if-is-4.true)))))

pub overflow_cast-arg : goal.overflow_cast-arg
overflow_cast-arg c =
    let h = (opened-harts _ c.args.r.now c.requires.0 (eqb-true _ 33 (sym c.is-else-is-4.ensures ∙ c.if-is-5.true))) in
    search rules

pub overflow_cast-arg-then-is-5 : goal.overflow_cast-arg-then-is-5
overflow_cast-arg-then-is-5 c =
    let h = (opened-pages _ c.args.r.now c.requires.0 (eqb-true _ 33 (sym c.is-else-is-4.ensures ∙ c.if-is-5.true))) in
    search rules

pub returns-then-is : goal.returns-then-is
returns-then-is c = kept _ _ (call_6 _ c.args.r.now (eqb-true _ 6 (sym c.is.ensures ∙ c.if-is.true))) refl (c.set_phase.ensures ∙ rw (c.«new».ensures, c.arg-tvm.ensures))

pub returns-then-is-2 : goal.returns-then-is-2
returns-then-is-2 c = kept _ _ (call_8 _ c.args.r.now (eqb-true _ 8 (sym c.is-else-is.ensures ∙ c.if-is-2.true))) refl (c.destroy.ensures ∙ rw (c.new-then-is-2.ensures, c.arg-tvm.ensures))

pub returns-then-is-3 : goal.returns-then-is-3
returns-then-is-3 c = kept _ _ (call_9 _ c.args.r.now (eqb-true _ 9 (sym c.is-else-is-2.ensures ∙ c.if-is-3.true))) refl (c.add_region.ensures ∙ rw (c.new-then-is-3.ensures, c.arg-tvm.ensures, c.arg.ensures, c.requires.1))

pub returns-then-is-4 : goal.returns-then-is-4
returns-then-is-4 c = kept _ _ (call_14 _ c.args.r.now (eqb-true _ 14 (sym c.is-else-is-3.ensures ∙ c.if-is-4.true))) refl (c.make_vcpu.ensures ∙ rw (c.new-then-is-4.ensures, c.new-then-is-4-2.ensures, c.arg-tvm.ensures, c.arg-then-is-4.ensures))

pub returns-then-is-5 : goal.returns-then-is-5
returns-then-is-5 c = kept _ _ (call_33 _ c.args.r.now (eqb-true _ 33 (sym c.is-else-is-4.ensures ∙ c.if-is-5.true))) refl (c.«open».ensures ∙ rw (c.arg-then-is-5.ensures, c.arg-then-is-5-2.ensures))

pub returns-else-is-5 : goal.returns-else-is-5
unfolding one_of one_from
returns-else-is-5 c =
    kept _ _ (call_none _ c.args.r.now c.requires.2 (rw (sym c.is.ensures ∙ c.if-is.false, sym c.is-else-is.ensures ∙ c.if-is-2.false, sym c.is-else-is-2.ensures ∙ c.if-is-3.false, sym c.is-else-is-3.ensures ∙ c.if-is-4.false, sym c.is-else-is-4.ensures ∙ c.if-is-5.false))) refl refl
