use Prim.Native.Nat.{ℕ}
use mathlib.Core.Path.{◌≡◌, refl, sym, ◌∙◌, ap}
use mathlib.Core.Bool.{true, not}
use lib.Dec.{eqb}
use borrow.Author.Tests.{eqb-true}
use Rattle.sets.specs.Look.{any, lowest}
use Rattle.rules.specs.declared.Role.TheVariants.{Tvm}
use Rattle.rules.specs.Calls.{arg}
use Rattle.rules.specs.Refusals.{refuses9, takeable, taken, unused}
use Rattle.rules.specs.Encoding.{view}
use Rattle.seats.specs.Room.{found}
use Rattle.seats.proofs.Scans.{find_none}
use Rattle.seats.proofs.Seats.{at_first, at_second}
use Rattle.seats.proofs.room.refuses9.Goals as goal

pub returns-then-is : goal.returns-then-is
unfolding refuses9 taken
returns-then-is c =
    let l = view c.args.l.now in
    let n = c.args.r.now.number in
    let e : eqb n 5 ≡ true = sym c.is.ensures ∙ c.if-is.true in
    find_none (takeable l) 16 _ _ c.taken.ensures c.is_none.ensures ∙ at_first 5 9 n (not (any (takeable l) 16)) _ refl refl (eqb-true n 5 e)

pub returns-then-is-2 : goal.returns-then-is-2
unfolding refuses9
returns-then-is-2 c =
    let l = view c.args.l.now in
    let n = c.args.r.now.number in
    let k = arg Tvm c.args.r.now in
    let e : eqb n 9 ≡ true = sym c.is-2.ensures ∙ c.if-is-2.true in
    find_none (unused (l.slot k)) 8 _ _ (c.unused.ensures ∙ ap (λ (x : ℕ). found 8 (lowest (unused (l.slot x)) 8)) c.arg.ensures) c.is_none-then-is-2.ensures
    ∙ at_second 5 9 n _ (not (any (unused (l.slot k)) 8)) refl refl (eqb-true n 9 e)
