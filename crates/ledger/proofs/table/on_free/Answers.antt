use Prim.Native.Nat.{ℕ, ◌+◌, ◌-◌, ◌/◌}
use mathlib.Core.Bool.{cond, ◌||◌}
use mathlib.Core.Path.{◌≡◌, sym, ◌∙◌}
use native.Mathlib.Omega.{arith}
use borrow.Author.Tests.{eqb-true, eqb-false}
use lib.Dec.{eqb}
use borrow.Author.Rules.{rules}
use Rattle.sets.specs.Terms.{within, one_of, one_from}
use Rattle.sets.proofs.Looks.{lowest_le}
use Rattle.rules.specs.Page.{over, page, guest_word}
use Rattle.rules.specs.Refusals.{takeable, taken}
use Rattle.rules.specs.declared.Role.TheVariants.{Tvm, DirectoryBase}
use Rattle.rules.specs.Calls.{entry_of, names, size, index}
use Rattle.rules.specs.Encoding.{view, pages_of}
use Rattle.rules.proofs.CallTable.{named_at}
use Rattle.door.proofs.Ready.{free_fits, directory_fits, tvm_fits, pages_fit, guest_fits, typed_tvm, typed_guest, typed_not_9}
use Rattle.seats.proofs.Scans.{find_or}
use Rattle.ledger.proofs.ByNumber.{table_2, table_5, table_10, table_14, table_typed, typed_free}
use Rattle.ledger.proofs.table.on_free.Goals as goal

pub own-requires : goal.own-requires
own-requires c =
    let r = c.requires.0 in
    let q = c.args.r.now in
    rw c.arg-free.ensures ((free_fits r c.requires.1).0, (free_fits r c.requires.1).1, pages_fit r (rw (eqb-true _ 2 (sym c.is.ensures ∙ c.if-is.true))))

pub overflow_cast-unwrap_or : goal.overflow_cast-unwrap_or
unfolding taken
overflow_cast-unwrap_or c =
    let p = takeable (view c.args.l.now) in
    let h = lowest_le p 16 in
    let e = find_or p 16 _ _ c.taken.ensures c.unwrap_or.ensures in
    search rules

pub found-requires : goal.found-requires
unfolding names entry_of one_of one_from size
found-requires c =
    let r = c.requires.0 in
    let q = c.args.r.now in
    let e = (eqb-true _ 5 (sym c.is-else-is.ensures ∙ c.if-is-2.true)) in
    let one : ◌≡◌ {A = ℕ} c.args.pages 1 = r.sized ∙ rw e in
    let d = directory_fits r (named_at 5 DirectoryBase q e) in
    let f = free_fits r c.requires.1 in
    rw (c.arg.ensures, c.arg-free.ensures) ((d.0, d.1, omega arith), (f.0, omega (arith, f.1, one), omega arith))

pub overflow_cast-tvm : goal.overflow_cast-tvm
unfolding entry_of one_of one_from
overflow_cast-tvm c =
    let r = c.requires.0 in
    let q = c.args.r.now in
    let h = tvm_fits r (named_at 10 Tvm q (eqb-true _ 10 (sym c.is-else-is-2.ensures ∙ c.if-is-3.true))) in
    search rules

pub own-requires-then-is-3 : goal.own-requires-then-is-3
own-requires-then-is-3 c =
    let r = c.requires.0 in
    let q = c.args.r.now in
    rw c.arg-free.ensures ((free_fits r c.requires.1).0, (free_fits r c.requires.1).1, pages_fit r (rw (eqb-true _ 10 (sym c.is-else-is-2.ensures ∙ c.if-is-3.true))))

pub overflow_cast-tvm-then-is-4 : goal.overflow_cast-tvm-then-is-4
unfolding entry_of one_of one_from
overflow_cast-tvm-then-is-4 c =
    let r = c.requires.0 in
    let q = c.args.r.now in
    let h = tvm_fits r (named_at 14 Tvm q (eqb-true _ 14 (sym c.is-else-is-3.ensures ∙ c.if-is-4.true))) in
    search rules

pub own-requires-then-is-4 : goal.own-requires-then-is-4
own-requires-then-is-4 c =
    let r = c.requires.0 in
    let q = c.args.r.now in
    rw c.arg-free.ensures ((free_fits r c.requires.1).0, (free_fits r c.requires.1).1, pages_fit r (rw (eqb-true _ 14 (sym c.is-else-is-3.ensures ∙ c.if-is-4.true))))

pub overflow_cast-tvm-else-is-4 : goal.overflow_cast-tvm-else-is-4
overflow_cast-tvm-else-is-4 c =
    let r = c.requires.0 in
    let q = c.args.r.now in
    let h = tvm_fits r (typed_tvm q (typed_free q c.requires.1 (eqb-false _ 2 (sym c.is.ensures ∙ c.if-is.false)) (eqb-false _ 5 (sym c.is-else-is.ensures ∙ c.if-is-2.false)) (eqb-false _ 10 (sym c.is-else-is-2.ensures ∙ c.if-is-3.false)) (eqb-false _ 14 (sym c.is-else-is-3.ensures ∙ c.if-is-4.false)))) in
    search rules

pub overflow_cast-first : goal.overflow_cast-first
overflow_cast-first c =
    let r = c.requires.0 in
    let q = c.args.r.now in
    let h = guest_fits r (typed_guest q (typed_free q c.requires.1 (eqb-false _ 2 (sym c.is.ensures ∙ c.if-is.false)) (eqb-false _ 5 (sym c.is-else-is.ensures ∙ c.if-is-2.false)) (eqb-false _ 10 (sym c.is-else-is-2.ensures ∙ c.if-is-3.false)) (eqb-false _ 14 (sym c.is-else-is-3.ensures ∙ c.if-is-4.false)))) in
    search rules

pub map-requires : goal.map-requires
map-requires c =
    let r = c.requires.0 in
    let q = c.args.r.now in
    let n = typed_free q c.requires.1 (eqb-false _ 2 (sym c.is.ensures ∙ c.if-is.false)) (eqb-false _ 5 (sym c.is-else-is.ensures ∙ c.if-is-2.false)) (eqb-false _ 10 (sym c.is-else-is-2.ensures ∙ c.if-is-3.false)) (eqb-false _ 14 (sym c.is-else-is-3.ensures ∙ c.if-is-4.false)) in
    rw (c.arg-free.ensures, c.arg-first.ensures) (((free_fits r c.requires.1).0, (free_fits r c.requires.1).1, pages_fit r (typed_not_9 q n)), guest_fits r (typed_guest q n))

pub returns-then-is : goal.returns-then-is
returns-then-is c =
    let r = c.requires.0 in
    let q = c.args.r.now in
    let l = view c.args.l.now in
    let t = pages_of c.args.t.now in
    c.own.ensures ∙ (λ i. over t (within (index (c.arg-free.ensures i)) (r.sized i)) (λ j. page 0 (0) 0 0)) ∙ sym (table_2 l t q (eqb-true _ 2 (sym c.is.ensures ∙ c.if-is.true)))

pub returns-then-is-2 : goal.returns-then-is-2
unfolding names entry_of one_of one_from size taken
returns-then-is-2 c =
    let r = c.requires.0 in
    let q = c.args.r.now in
    let l = view c.args.l.now in
    let t = pages_of c.args.t.now in
    let e = (eqb-true _ 5 (sym c.is-else-is.ensures ∙ c.if-is-2.true)) in
    let slot = find_or (takeable l) 16 _ _ c.taken.ensures c.unwrap_or.ensures in
    c.found.ensures
    ∙ (λ i. over t (λ j. within (index (c.arg.ensures i)) 4 j || within (index (c.arg-free.ensures i)) 1 j)
    (λ j. page (cond (within (index (c.arg.ensures i)) 4 j) 3 4) (slot i) 0 0))
    ∙ sym (table_5 l t q e)

pub returns-then-is-3 : goal.returns-then-is-3
returns-then-is-3 c =
    let r = c.requires.0 in
    let q = c.args.r.now in
    let l = view c.args.l.now in
    let t = pages_of c.args.t.now in
    c.own-then-is-3.ensures ∙ (λ i. over t (within (index (c.arg-free.ensures i)) (r.sized i)) (λ j. page 6 (c.arg-tvm.ensures i) 0 0)) ∙ sym (table_10 l t q (eqb-true _ 10 (sym c.is-else-is-2.ensures ∙ c.if-is-3.true)))

pub returns-then-is-4 : goal.returns-then-is-4
returns-then-is-4 c =
    let r = c.requires.0 in
    let q = c.args.r.now in
    let l = view c.args.l.now in
    let t = pages_of c.args.t.now in
    c.own-then-is-4.ensures ∙ (λ i. over t (within (index (c.arg-free.ensures i)) (r.sized i)) (λ j. page 5 (c.arg-tvm.ensures i) 0 0)) ∙ sym (table_14 l t q (eqb-true _ 14 (sym c.is-else-is-3.ensures ∙ c.if-is-4.true)))

pub returns-else-is-4 : goal.returns-else-is-4
returns-else-is-4 c =
    let r = c.requires.0 in
    let q = c.args.r.now in
    let l = view c.args.l.now in
    let t = pages_of c.args.t.now in
    c.map.ensures
    ∙ (λ i. over t (within (index (c.arg-free.ensures i)) (r.sized i)) (λ j. page 7 (c.arg-tvm.ensures i) 0 (guest_word (c.arg-first.ensures i / 4096 + (j - index (c.arg-free.ensures i))) (eqb (c.arg-else-is-4.ensures i) 1))))
    ∙ sym (table_typed l t q (typed_free q c.requires.1 (eqb-false _ 2 (sym c.is.ensures ∙ c.if-is.false)) (eqb-false _ 5 (sym c.is-else-is.ensures ∙ c.if-is-2.false)) (eqb-false _ 10 (sym c.is-else-is-2.ensures ∙ c.if-is-3.false)) (eqb-false _ 14 (sym c.is-else-is-3.ensures ∙ c.if-is-4.false))))
