use borrow.Author.Rules.{rules}
use mathlib.Core.Path.{sym}
use Rattle.sets.proofs.OneOf.{one_off}
use Rattle.rules.specs.Refusals.{refuses4}
use Rattle.rules.specs.Encoding.{view, pages_of}
use Rattle.rules.proofs.Accepted.{passed}
use Rattle.ledger.proofs.Settling.{accepted, refused, none_early}
use Rattle.ledger.proofs.settle.Goals as goal

pub returns-in_err-refusal : goal.returns-in_err-refusal
returns-in_err-refusal c = let h = refused _ _ c.args.r.now c.in_err-refusal.field-0.0 c.in_err-refusal.ensures in search rules

pub sized-pages-requires : goal.sized-pages-requires
unfolding refuses4
sized-pages-requires c = one_off _ (passed _ _ _ (sym c.in_ok-refusal.ensures)).p4 5

pub on_table-requires : goal.on_table-requires
on_table-requires c =
    record { sized = c.sized-pages.ensures; early_off = none_early _ _ c.args.r.now (sym c.in_ok-refusal.ensures) }

pub on_ledger-requires : goal.on_ledger-requires
on_ledger-requires c = ((pages_of c.args.t.now, sym c.in_ok-refusal.ensures), c.sized-pages.ensures)

pub returns : goal.returns
returns c =
    let k = c.on_ledger.ensures (pages_of c.args.t.now) in
    accepted (view c.args.l.now) (pages_of c.args.t.now) c.args.r.now _ _ _ (sym c.in_ok-refusal.ensures) k.0 k.1 c.on_table.ensures
