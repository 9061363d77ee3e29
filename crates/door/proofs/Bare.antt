-- Refusal 4 of a call that names nothing that it looks at: only the hart can be out of range.
-- Assumes nothing.
use Prim.Native.Nat.{ℕ}
use mathlib.Core.Path.{◌≡◌, refl, sym, ◌∙◌}
use mathlib.Core.Bool.{Bool, true, false, not, ◌&&◌, true≢false}
use lib.Dec.{ltb, leb, eqb}
use borrow.Author.Tests.{eqb-true}
use Rattle.sets.specs.Terms.{one_of, one_from}
use Rattle.sets.proofs.Bools.{by_test}
use Rattle.sets.proofs.OneOf.{one_off}
use Rattle.rules.specs.declared.Call.{Call}
use Rattle.rules.specs.declared.Role.{Role}
use Rattle.rules.specs.declared.Role.TheVariants.{Vcpu, HartCount}
use Rattle.rules.specs.Page.{Table}
use Rattle.rules.specs.Ledger.{Ledger}
use Rattle.rules.specs.Calls.{entry_of, names, size}
use Rattle.rules.specs.Refusals.{refuses4}
use Rattle.rules.proofs.CallTable.{is_named, named_at}
use Rattle.door.specs.Asked.{for4, names_for_4}

-- a call that does not name the role is not one that does
not_there : (n : ℕ) (r : Role) (c : Call) → is_named r (entry_of n) ≡ true → names r c ≡ false → eqb c.number n ≡ false
not_there n r c h e = by_test (eqb c.number n) (λ q. absurd (true≢false (sym h ∙ sym (named_at n r c (eqb-true c.number n q)) ∙ e))) (λ q. q)

and_no : (a : Bool) → (a && false) ≡ false
and_no true = refl
and_no false = refl

module _ (l : Ledger) (t : Table) (c : Call) (e : names_for_4 c ≡ false) where
  short : (not (eqb c.number 9) && ltb 4096 (size c)) ≡ false
  unfolding size
  short = rw (one_off (for4 c) e 4, one_off (for4 c) e 2) (and_no (not (eqb c.number 9)))

  pub only_hart : refuses4 l t c ≡ leb l.harts c.hart
  unfolding refuses4 one_of one_from entry_of
  only_hart =
      by_test (leb l.harts c.hart)
      (λ f. rw (not_there 33 HartCount c refl (one_off (for4 c) e 5), f))
      (λ f. rw (not_there 33 HartCount c refl (one_off (for4 c) e 5), f, one_off (for4 c) e 0, one_off (for4 c) e 2, one_off (for4 c) e 3, short, one_off (for4 c) e 4, one_off (for4 c) e 1, not_there 15 Vcpu c refl (one_off (for4 c) e 1)))
