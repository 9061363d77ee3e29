-- What a look at the records that a call names says of refusals 6, 7 and 14. It ends at the first record that is not as wanted, so 7 and 14 are
-- known only where 6 does not hold.
use Rattle.std.specs.Prelude.{ℕ, ◌+◌, ◌*◌, ◌≤◌, Bool, false, cond, List, length, ◌≡◌, Option, None, Some, is_none, ⊤}
use Rattle.sets.specs.Terms.{row}
use Rattle.rules.specs.Page.{Table}
use Rattle.rules.specs.Fence.{Tracker}
use Rattle.rules.specs.Ledger.{Ledger}
use Rattle.rules.specs.declared.Call.{Call}
use Rattle.rules.specs.declared.Role.TheVariants.{Tvm}
use Rattle.rules.specs.Calls.{arg, moves, size, first_guest, memory, index}
use Rattle.rules.specs.Refusals as n
use Rattle.records.specs.Passes.{range_look, guest_look}
use Rattle.records.specs.declared.range.AllWanted.{AllWanted}
use Rattle.records.specs.declared.guest.AllMapped.{AllMapped}
use Rattle.looks.specs.declared.sight.Sight.{Sight}

abbrev pub is_unwanted : Option AllWanted → Bool
is_unwanted f = is_none f

abbrev pub is_unfinished : Option AllWanted → Bool
is_unfinished None = false
is_unfinished (Some w) = w.unfinished

abbrev pub is_unready : Option AllMapped → Bool
is_unready g = is_none g

abbrev pub is_undone : Option AllMapped → Bool
is_undone None = false
is_undone (Some m) = m.undone

abbrev pub has_cut : Option AllMapped → Bool
has_cut None = false
has_cut (Some m) = m.cut

-- pages that the call names are in the table
abbrev pub InTable : Option ℕ → ℕ → List ℕ → Type 0
InTable None pages b = ⊤
InTable (Some base) pages b = (memory ≤ base) × (8 * (index base + pages) ≤ length b)

-- a look at pages, where the call names them; nothing is amiss with none
abbrev pub look_at : Table → Option ℕ → ℕ → Bool → Tracker → Option AllWanted
look_at t None pages host fence = Some (record { unfinished = false })
look_at t (Some base) pages host fence = range_look t (index base) pages host fence

-- a look at the guest pages of 17 to 19
abbrev pub guests_at : Ledger → Table → Call → Option AllMapped
guests_at l t c =
    cond (moves c) (guest_look t l.pages (arg Tvm c) (first_guest c) (size c) (row c.number 17 7 8) (l.slot (arg Tvm c)).fence)
    (Some (record { undone = false; cut = false }))

pub record Seen (l : Ledger) (t : Table) (c : Call) (s : Sight) : Type 0 where
  pub six : s.refuses6 ≡ n.refuses6 l t c
  pub seven : s.refuses6 ≡ false → s.refuses7 ≡ n.refuses7 l t c
  pub fourteen : s.refuses6 ≡ false → s.refuses14 ≡ n.refuses14 l t c
