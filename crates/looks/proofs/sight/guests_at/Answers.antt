use Prim.Native.Nat.{ℕ, ◌/◌}
use mathlib.Core.Path.{◌≡◌, sym, ◌∙◌, ap}
use native.Mathlib.Omega.{arith}
use borrow.Author.Rules.{rules}
use Rattle.rules.specs.declared.Role.TheVariants.{Tvm}
use Rattle.rules.specs.Calls.{arg}
use Rattle.rules.specs.Encoding.{view, pages_of}
use Rattle.records.specs.Passes.{guest_look}
use Rattle.door.proofs.Ready.{moves_tvm, moves_guest, moves-not_9, guest_not_open, tvm_fits, guest_fits, pages_fit, all_records}
use Rattle.looks.proofs.sight.guests_at.Goals as goal

pub overflow_cast-tvm : goal.overflow_cast-tvm
overflow_cast-tvm c = let h = tvm_fits c.requires (moves_tvm _ (sym c.is_move.ensures ∙ c.if-is_move.true)) in search rules

pub overflow_cast-first : goal.overflow_cast-first
overflow_cast-first c = let h = guest_fits c.requires (moves_guest _ (sym c.is_move.ensures ∙ c.if-is_move.true)) in search rules

pub overflow_cast-pages : goal.overflow_cast-pages
overflow_cast-pages c = let h = pages_fit c.requires (moves-not_9 c.args.r.now (sym c.is_move.ensures ∙ c.if-is_move.true)) in search rules

pub look-requires : goal.look-requires
look-requires c =
    let r = c.requires in
    let m = sym c.is_move.ensures ∙ c.if-is_move.true in
    let g = moves_guest _ m in
    (omega (arith, all_records r (guest_not_open _ g), c.pages-total.ensures), rw c.arg-first.ensures (guest_fits r g), pages_fit r (moves-not_9 c.args.r.now m))

pub returns-then-is_move : goal.returns-then-is_move
returns-then-is_move c =
    let q = c.args.r.now in
    let l = view c.args.l.now in
    let t = pages_of c.args.t.now in
    let m = sym c.is_move.ensures ∙ c.if-is_move.true in
    let fence : _ ≡ (l.slot (arg Tvm q)).fence = c.fence-fence.ensures ∙ ap (λ (k : ℕ). (l.slot k).fence) c.arg-tvm.ensures in
    c.look.ensures
    ∙ (λ i. guest_look t (c.pages-total.ensures i) (c.arg-tvm.ensures i) (c.arg-first.ensures i / 4096) (c.requires.sized i) (c.kind_for.ensures i) (fence i))
    ∙ rw m

pub returns : goal.returns
returns c = rw (sym c.is_move.ensures ∙ c.if-is_move.false)
