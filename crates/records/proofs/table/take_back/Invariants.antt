use Prim.Native.Nat.{ℕ}
use mathlib.Core.Path.{◌≡◌}
use mathlib.Core.Bool.{Bool, ◌&&◌}
use lib.Dec.{eqb}
use Rattle.rules.specs.declared.Page.{Page}
use Rattle.rules.specs.Page.{page, is_given}
use Rattle.rules.specs.Encoding.{pages_of}
use Rattle.records.proofs.WritePass.{up_to}
use Rattle.records.proofs.table.take_back.Given as goal

-- a page that the TVM of the slot holds
abbrev pub given : ℕ → Page → Bool
given slot p = is_given p && eqb p.slot slot

abbrev pub invariant-loop-i : goal.invariant-loop-i
invariant-loop-i l =
    pages_of l.t ≡ up_to (pages_of l.initial.t) (λ j. given l.slot ((pages_of l.initial.t).page j)) (λ j. page 2 0 0 0) l.i
