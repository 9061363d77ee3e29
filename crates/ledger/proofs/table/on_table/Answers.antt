use borrow.Author.Tests.{eqb-true, eqb-false}
use mathlib.Core.Path.{sym, ◌∙◌}
use mathlib.Core.Bool.{◌&&◌}
use lib.Dec.{ltb, eqb}
use borrow.Author.Rules.{rules}
use Rattle.sets.specs.Terms.{one_of, one_from, within}
use Rattle.rules.specs.declared.Role.TheVariants.{Tvm, HostBase}
use Rattle.rules.specs.Page.{over, page, is_given}
use Rattle.rules.specs.Calls.{entry_of, index}
use Rattle.rules.specs.Encoding.{view, pages_of}
use Rattle.rules.proofs.CallTable.{named_at}
use Rattle.door.proofs.Ready.{host_fits, pages_fit, tvm_fits, all_records, opening-fits}
use Rattle.ledger.proofs.ByNumber.{table_1, table_8, table_33, table_none}
use Rattle.ledger.proofs.table.on_table.Goals as goal

pub on_free-requires : goal.on_free-requires
on_free-requires c = (c.requires, sym c.names.ensures ∙ c.if-names.true)

pub on_guests-requires : goal.on_guests-requires
on_guests-requires c = (c.requires, sym c.is_move.ensures ∙ c.if-is_move.true)

pub convert-requires : goal.convert-requires
unfolding entry_of one_of one_from
convert-requires c =
    let r = c.requires in
    let q = c.args.r.now in
    let e = (eqb-true _ 1 (sym c.is.ensures ∙ c.if-is.true)) in
    let h = host_fits r (named_at 1 HostBase q e) in
    rw c.arg.ensures (h.0, h.1, pages_fit r (rw e))

pub overflow_cast-arg : goal.overflow_cast-arg
unfolding entry_of one_of one_from
overflow_cast-arg c =
    let r = c.requires in
    let q = c.args.r.now in
    let h = tvm_fits r (named_at 8 Tvm q (eqb-true _ 8 (sym c.is-else-is.ensures ∙ c.if-is-2.true))) in
    search rules

pub take_back-requires : goal.take_back-requires
take_back-requires c =
    let r = c.requires in
    let q = c.args.r.now in
    all_records r (rw (eqb-true _ 8 (sym c.is-else-is.ensures ∙ c.if-is-2.true))) ∙ rw c.pages.ensures

pub clear-requires : goal.clear-requires
clear-requires c =
    let r = c.requires in
    let q = c.args.r.now in
    rw c.arg-then-is-3.ensures (opening-fits r (rw (eqb-true _ 33 (sym c.is-else-is-2.ensures ∙ c.if-is-3.true))))

pub returns-then-is : goal.returns-then-is
returns-then-is c =
    let r = c.requires in
    let q = c.args.r.now in
    let l = view c.args.l.now in
    let t = pages_of c.args.t.now in
    c.convert.ensures ∙ (λ i. over t (within (index (c.arg.ensures i)) (r.sized i)) (λ j. page 1 0 l.global.version 0)) ∙ sym (table_1 l t q (eqb-true _ 1 (sym c.is.ensures ∙ c.if-is.true)))

pub returns-then-is-2 : goal.returns-then-is-2
returns-then-is-2 c =
    let r = c.requires in
    let q = c.args.r.now in
    let l = view c.args.l.now in
    let t = pages_of c.args.t.now in
    c.take_back.ensures ∙ (λ i. over t (λ j. is_given (t.page j) && eqb (t.page j).slot (c.arg-then-is-2.ensures i)) (λ j. page 2 0 0 0)) ∙ sym (table_8 l t q (eqb-true _ 8 (sym c.is-else-is.ensures ∙ c.if-is-2.true)))

pub returns-then-is-3 : goal.returns-then-is-3
returns-then-is-3 c =
    let r = c.requires in
    let q = c.args.r.now in
    let l = view c.args.l.now in
    let t = pages_of c.args.t.now in
    c.clear.ensures ∙ (λ i. over t (λ j. ltb j (c.arg-then-is-3.ensures i)) (λ j. page 0 0 0 0)) ∙ sym (table_33 l t q (eqb-true _ 33 (sym c.is-else-is-2.ensures ∙ c.if-is-3.true)))

pub returns-else-is-3 : goal.returns-else-is-3
returns-else-is-3 c =
    let r = c.requires in
    let q = c.args.r.now in
    sym (table_none (view c.args.l.now) (pages_of c.args.t.now) q (sym c.names.ensures ∙ c.if-names.false) (sym c.is_move.ensures ∙ c.if-is_move.false) (eqb-false _ 1 (sym c.is.ensures ∙ c.if-is.false)) (eqb-false _ 8 (sym c.is-else-is.ensures ∙ c.if-is-2.false)) (eqb-false _ 33 (sym c.is-else-is-2.ensures ∙ c.if-is-3.false)))
