-- What the rows of the code's constant table of calls say.
use Rattle.std.specs.Prelude.{ℕ, ◌+◌, ◌*◌, ◌∷◌, map, min, get_or}
use Rattle.rules.specs.Calls.{Phases, no_phase, I, R, IR, code, entry_of}

-- the phases as a set: phase p is binary digit p
abbrev pub phase_set : Phases → ℕ
phase_set no_phase = 0
phase_set I = 2
phase_set R = 4
phase_set IR = 6

-- the number of the role of argument i; 0 where it is not named
unfoldable pub role_at : ℕ → ℕ → ℕ
role_at n i = get_or (map code (entry_of n).arguments) i 0

-- the row's hex digits from the left: 1 where the call is in the table, the phases, what each of a0 to a5 is
unfoldable pub call_digit : ℕ → ℕ → ℕ
call_digit n i = get_or (min 1 (entry_of n).number ∷ phase_set (entry_of n).phases ∷ map code (entry_of n).arguments) i 0

-- the row: the digits as a number
unfoldable pub row_of : ℕ → ℕ
row_of n =
    let d = call_digit n in
    ((((((d 0 * 16 + d 1) * 16 + d 2) * 16 + d 3) * 16 + d 4) * 16 + d 5) * 16 + d 6) * 16 + d 7
