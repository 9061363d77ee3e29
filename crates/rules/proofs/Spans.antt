-- A look at the pages that a call names, as what the call names.
-- Assumes nothing.
use mathlib.Core.Path.{◌≡◌, refl, sym}
use mathlib.Core.Bool.{Bool, true, false, cond, ◌&&◌, ◌||◌}
use mathlib.Core.List.{[], ◌∷◌}
use Rattle.sets.specs.Terms.{one_of, one_from, any_in}
use Rattle.sets.proofs.Bools.{or_false}
use Rattle.rules.specs.declared.Role.TheVariants.{HostBase, FreeBase, DirectoryBase}
use Rattle.rules.specs.declared.Call.{Call}
use Rattle.rules.specs.Calls.{Span, span, names, arg, size, unit, host_spans, free_spans}

module _ (p : Span → Bool) (c : Call) where
  pub host_spans_lem : any_in p (host_spans c) ≡ (names HostBase c && p (span (arg HostBase c) (size c) 1))
  unfolding host_spans one_of one_from
  host_spans_lem = go (names HostBase c) (span (arg HostBase c) (size c) 1)
    where
      go : (b : Bool) (s : Span) → any_in p (cond b (s ∷ []) []) ≡ (b && p s)
      go true s = refl
      go false s = refl

  pub free_spans_lem : any_in p (free_spans c) ≡ (names DirectoryBase c && p (span (arg DirectoryBase c) 4 4) || names FreeBase c && p (span (arg FreeBase c) (size c) (unit c)))
  unfolding free_spans one_of one_from
  free_spans_lem = go (names DirectoryBase c) (names FreeBase c) (span (arg DirectoryBase c) 4 4) (span (arg FreeBase c) (size c) (unit c))
    where
      go : (a b : Bool) (s t : Span) → any_in p (cond a (s ∷ cond b (t ∷ []) []) (cond b (t ∷ []) [])) ≡ (a && p s || b && p t)
      go true true s t = refl
      go true false s t = sym (or_false (p s))
      go false true s t = refl
      go false false s t = refl
