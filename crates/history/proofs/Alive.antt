-- The reckonings are not empty: a history in which a page is held, a guest's translation and a host's are there, and waits begin and end.
-- Assumes nothing.
use mathlib.Core.Path.{◌≡◌, refl}
use mathlib.Core.Bool.{Bool, true, false}
use mathlib.Core.List.{List, [], ◌∷◌, ◌++◌}
use Rattle.rules.specs.declared.Call.{Call}
use Rattle.rules.specs.Step.{Answer, Accepted, Refused, step}
use Rattle.history.specs.Demand3.{nobody, holds, maps, held, hosts, guests, Watch, globally, for_tvm, Turned, later, watch, ended, needs}
use Rattle.history.proofs.Played.{lent, on, opening, convert, fences, guest, block, opened-all}

-- what is told of a watch: whether it lasts, whether waiting is over
abbrev says : Watch → List Bool
says w = w.lasts ∷ ended w ∷ []

abbrev converted : List Call → List Bool
converted ds = says (watch globally 1 6 lent opening convert ds)

abbrev blocked : List Call → List Bool
blocked ds = says (watch (for_tvm 0) 8 6 lent guest block ds)

who_holds : (held lent guest 0 ≡ holds 0) × (held lent guest 6 ≡ maps 0 17) × (held lent guest 7 ≡ nobody)
unfolding opened-all
who_holds = (refl, refl, refl)

-- hart 0 has the guest's page, still when it is blocked; hart 1 the host's page 12, and no longer page 6
who_translates : ((guests lent (guest ++ (block ∷ []))).may 0 0 17 6 ≡ true) × ((hosts lent guest).may 1 12 ≡ true) × ((hosts lent guest).may 1 6 ≡ false)
unfolding opened-all
who_translates = (refl, refl, refl)

-- page 6 was converted, and later blocked
was_converted : Turned 1 lent opening convert 6
unfolding opened-all
was_converted = record { value = 0; accepted = refl; before = refl; now = refl }

was_blocked : Turned 8 lent guest block 6
unfolding opened-all
was_blocked = record { value = 0; accepted = refl; before = refl; now = refl }

-- with no fence; with one that hart 1 has not answered; with both
converted_ends : (converted [] ≡ true ∷ false ∷ []) × (converted (on 0 3 0 0 0 0 0 ∷ []) ≡ true ∷ false ∷ []) × (converted fences ≡ true ∷ true ∷ [])
unfolding opened-all
converted_ends = (refl, refl, refl)

-- with a fence that awaits hart 0; when it has left; and once the page is removed
blocked_ends : (blocked (on 1 16 0 0 0 0 0 ∷ []) ≡ true ∷ false ∷ []) × (blocked (on 1 16 0 0 0 0 0 ∷ on 0 32 0 0 0 0 0 ∷ []) ≡ true ∷ true ∷ [])
    × (blocked (on 1 16 0 0 0 0 0 ∷ on 0 32 0 0 0 0 0 ∷ on 1 19 0 0x11000 0x1000 0 0 ∷ []) ≡ false ∷ true ∷ [])
unfolding opened-all
blocked_ends = (refl, refl, refl)

-- reclaim needs the page that was converted, remove the one that was blocked: refused 7 while these wait, and accepted afterwards
abbrev answers : List Call → Call → List Call → Call → Answer
answers cs c ds d = (step (later lent cs c ds) d).answer

reclaim_waits : (needs (later lent opening convert []) (on 0 2 0x80006000 1 0 0 0) 6 ≡ true) × (answers opening convert [] (on 0 2 0x80006000 1 0 0 0) ≡ Refused 7)
    × (answers opening convert fences (on 0 2 0x80006000 1 0 0 0) ≡ Accepted 0)
unfolding opened-all
reclaim_waits = (refl, refl, refl)

remove_waits : (needs (later lent guest block []) (on 1 19 0 0x11000 0x1000 0 0) 6 ≡ true) × (answers guest block [] (on 1 19 0 0x11000 0x1000 0 0) ≡ Refused 7)
    × (answers guest block (on 1 16 0 0 0 0 0 ∷ on 0 32 0 0 0 0 0 ∷ []) (on 1 19 0 0x11000 0x1000 0 0) ≡ Accepted 0)
unfolding opened-all
remove_waits = (refl, refl, refl)
