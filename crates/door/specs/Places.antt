-- The parts of refusal 5 over plain numbers.
use Rattle.std.specs.Prelude.{ℕ, ◌+◌, ◌*◌, Bool, ◌||◌, ltb}
use Rattle.rules.specs.declared.Call.{Call}
use Rattle.rules.specs.declared.Role.TheVariants.{HostBase, FreeBase, DirectoryBase, GuestBase}
use Rattle.rules.specs.Calls.{names}

-- the call names an address
abbrev pub names_place : Call → Bool
names_place c = names HostBase c || names DirectoryBase c || names FreeBase c || names GuestBase c

abbrev pub past_guest : ℕ → ℕ → Bool
past_guest base pages = ltb 4294967296 (base + 4096 * pages)
