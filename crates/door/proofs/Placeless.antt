-- Refusals 5, 6, 7 and 14 are about pages: of a call that names no address none of them holds.
-- Assumes nothing.
use mathlib.Core.Path.{◌≡◌, sym, ◌∙◌}
use mathlib.Core.Bool.{false, ◌||◌, true≢false}
use lib.Dec.{eqb}
use Rattle.sets.specs.Terms.{one_of, one_from}
use Rattle.sets.proofs.Bools.{by_test, or_left, or_right}
use Rattle.rules.specs.declared.Call.{Call}
use Rattle.rules.specs.declared.Role.TheVariants.{HostBase, FreeBase, DirectoryBase, GuestBase}
use Rattle.rules.specs.Page.{Table}
use Rattle.rules.specs.Ledger.{Ledger}
use Rattle.rules.specs.Calls.{names, moves}
use Rattle.rules.specs.Refusals.{refuses5, refuses6, refuses7, refuses14}
use Rattle.rules.proofs.Spans.{host_spans_lem, free_spans_lem}
use Rattle.door.specs.Places.{names_place}
use Rattle.door.proofs.Ready.{moves_guest}

module _ (l : Ledger) (t : Table) (c : Call) (e : names_place c ≡ false) where
  three : (names HostBase c || names DirectoryBase c || names FreeBase c) ≡ false
  three = or_left _ (names GuestBase c) e

  host : names HostBase c ≡ false
  host = or_left _ (names DirectoryBase c) (or_left _ (names FreeBase c) three)

  directory : names DirectoryBase c ≡ false
  directory = or_right (names HostBase c) _ (or_left _ (names FreeBase c) three)

  free : names FreeBase c ≡ false
  free = or_right (names HostBase c || names DirectoryBase c) _ three

  guest : names GuestBase c ≡ false
  guest = or_right (names HostBase c || names DirectoryBase c || names FreeBase c) _ e

  still : moves c ≡ false
  still = by_test (moves c) (λ m. absurd (true≢false (sym (moves_guest c m) ∙ guest))) (λ m. m)

  pub not_5 : refuses5 l t c ≡ false
  unfolding refuses5 one_of one_from
  not_5 = rw (host_spans_lem _ c, free_spans_lem _ c, host, directory, free, guest)

  pub not_6 : refuses6 l t c ≡ false
  unfolding refuses6 one_of one_from
  not_6 = rw (host_spans_lem _ c, free_spans_lem _ c, host, directory, free, still)

  pub not_7 : refuses7 l t c ≡ false
  unfolding refuses7
  not_7 = rw (free_spans_lem _ c, directory, free, or_right (eqb c.number 17) _ (or_left _ (eqb c.number 19) still), or_right (eqb c.number 17 || eqb c.number 18) _ still)

  pub not_14 : refuses14 l t c ≡ false
  unfolding refuses14
  not_14 = rw still
