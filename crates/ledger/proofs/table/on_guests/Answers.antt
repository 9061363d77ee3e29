use Prim.Native.Nat.{ℕ, ◌/◌}
use mathlib.Core.Path.{sym, ◌∙◌, ap}
use native.Mathlib.Omega.{arith}
use borrow.Author.Rules.{rules}
use Rattle.sets.specs.Terms.{row}
use Rattle.rules.specs.Page.{over, is_meant}
use Rattle.rules.specs.Encoding.{view, pages_of}
use Rattle.records.specs.Passes.{becomes}
use Rattle.door.proofs.Ready.{moves_tvm, moves_guest, moves-not_9, guest_not_open, tvm_fits, guest_fits, pages_fit, all_records}
use Rattle.ledger.proofs.ByNumber.{table-moved}
use Rattle.ledger.proofs.table.on_guests.Goals as goal

pub overflow_cast-tvm : goal.overflow_cast-tvm
overflow_cast-tvm c =
    let r = c.requires.0 in
    let q = c.args.r.now in
    let h = tvm_fits r (moves_tvm q c.requires.1) in
    search rules

pub overflow_cast-first : goal.overflow_cast-first
overflow_cast-first c =
    let r = c.requires.0 in
    let q = c.args.r.now in
    let h = guest_fits r (moves_guest q c.requires.1) in
    search rules

pub overflow_cast-pages : goal.overflow_cast-pages
overflow_cast-pages c =
    let r = c.requires.0 in
    let q = c.args.r.now in
    let h = pages_fit r (moves-not_9 q c.requires.1) in
    search rules

pub rewrite-requires : goal.rewrite-requires
rewrite-requires c =
    let r = c.requires.0 in
    let q = c.args.r.now in
    let g = moves_guest q c.requires.1 in
    (omega (arith, all_records r (guest_not_open q g), c.pages-total.ensures), rw c.arg-first.ensures (guest_fits r g), pages_fit r (moves-not_9 q c.requires.1))

pub returns : goal.returns
returns c =
    let r = c.requires.0 in
    let q = c.args.r.now in
    let l = view c.args.l.now in
    let t = pages_of c.args.t.now in
    let version = c.version_after.ensures ∙ ap (λ (v : ℕ). row q.number 17 v 0) ((λ i. (c.fence-fence.ensures i).version) ∙ ap (λ (k : ℕ). (l.slot k).fence.version) (c.arg-tvm.ensures)) in
    c.rewrite.ensures
    ∙ (λ i. over t (is_meant t (c.pages-total.ensures i) (c.arg-tvm.ensures i) (c.arg-first.ensures i / 4096) (r.sized i)) (λ j. becomes (c.kind_after.ensures i) (c.arg-tvm.ensures i) (version i) (t.page j)))
    ∙ sym (table-moved l t q c.requires.1)
