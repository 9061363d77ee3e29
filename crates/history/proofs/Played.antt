-- Histories to play, which the checker computes: sixteen pages and a few harts.
-- Assumes nothing.
use Prim.Native.Nat.{ℕ}
use mathlib.Core.List.{List, [], ◌∷◌, ◌++◌}
use Rattle.sets.specs.Look.{any, count, lowest}
use Rattle.rules.specs.declared.Call.{Call}
use Rattle.rules.specs.Page.{Table, page, meant, is_meant}
use Rattle.rules.specs.Refusals.{refusal, taken}
use Rattle.rules.specs.Step.{step, run}
use Rattle.history.specs.Demand3.{reckon, seats, gives, given, takes_back, holding, host_turn, guest_turn, watching, needs, not_done}
use Rattle.rules.proofs.Accepted.{at_number}

-- sixteen records of no kind, which open makes ordinary
abbrev pub lent : Table
lent = record { bytes = 128; page = λ i. page 9 0 0 0 }

-- a hart's call, by number, with its arguments
abbrev pub on : ℕ → ℕ → ℕ → ℕ → ℕ → ℕ → ℕ → Call
on h n x y z u v = record { number = n; hart = h; a0 = x; a1 = y; a2 = z; a3 = u; a4 = v; a5 = 0 }

-- open for two harts; convert eight pages; a fence, and a local one
abbrev pub opening : List Call
opening = on 0 33 2 16 0 0 0 ∷ []

abbrev pub convert : Call
convert = on 0 1 0x80000000 8 0 0 0

abbrev pub fences : List Call
fences = on 0 3 0 0 0 0 0 ∷ on 1 4 0 0 0 0 0 ∷ []

-- create with pages 0 to 4, region, vCPU 0 with page 5; finalize, zero page 6 at guest page 17; hart 0 enters
abbrev pub create : List Call
create = on 0 5 0x80000000 0x80004000 0 0 0 ∷ on 0 9 0 0x10000 0x8000 0 0 ∷ on 0 14 0 0 0x80005000 0 0 ∷ []

abbrev pub made : List Call
made = opening ++ (convert ∷ fences) ++ create

abbrev pub mapped : List Call
mapped = on 0 6 0 0 0 0 0 ∷ on 0 12 0 0x80006000 0 1 0x11000 ∷ []

abbrev pub enter : Call
enter = on 0 15 0 0 0 0 0

abbrev pub guest : List Call
guest = made ++ mapped ++ (enter ∷ [])

-- hart 1 blocks the page
abbrev pub block : Call
block = on 1 17 0 0x11000 0x1000 0 0

-- what opens to compute
unfoldable pub opened-all : Unit {0}
unfolding at_number any count lowest meant is_meant refusal taken step run reckon seats gives given takes_back holding host_turn guest_turn watching needs not_done
opened-all = tt
