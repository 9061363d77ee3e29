-- Who is where, as refusal 12 and the fence of a TVM ask it.
use Rattle.std.specs.Prelude.{ℕ, Bool, ◌&&◌, ◌||◌, eqb, Option, None, Some}
use Rattle.rules.specs.Fence.{Harts, someone}
use Rattle.rules.specs.Ledger.{Ledger, Place, is_in_slot, is_at}

-- inside the slot, at any vCPU or at that one
abbrev pub is_there : ℕ → Option ℕ → Place → Bool
is_there k None p = is_in_slot k p
is_there k (Some v) p = is_at k v p

abbrev pub there_of : Ledger → ℕ → Option ℕ → Harts
there_of l k vcpu j = is_there k vcpu (l.hart j).place

-- the parts of 12 beside the hart's own place
abbrev pub busy_by : Ledger → ℕ → ℕ → ℕ → Bool
busy_by l number k v = eqb number 14 && (l.slot k).made v || eqb number 15 && someone (there_of l k (Some v)) || eqb number 8 && someone (there_of l k None)
