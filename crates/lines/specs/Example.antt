-- Document 01's example, and the same tape with a byte too many.
use Rattle.std.specs.Prelude.{ℕ, ◌≡◌, List, [], ◌∷◌, ◌++◌}
use Rattle.rules.specs.declared.Call.{Call}
use Rattle.tape.specs.Tape.{tape_of}
use Rattle.lines.specs.Lines.{printed}

abbrev asks : ℕ → ℕ → ℕ → Call
asks number a0 a1 = record { number = number; hart = 0; a0 = a0; a1 = a1; a2 = 0; a3 = 0; a4 = 0; a5 = 0 }

-- "Input, all hart 0: open 1, 16; convert 0x80000000, 8; create 0x80000000, 0x80004000; global fence; the same create twice; reclaim 0x80005000,
-- 3; convert 0x80005000, 0."
abbrev pub input : List Call
input =
    asks 33 1 16
    ∷ asks 1 0x80000000 8
    ∷ asks 5 0x80000000 0x80004000
    ∷ asks 3 0 0
    ∷ asks 5 0x80000000 0x80004000
    ∷ asks 5 0x80000000 0x80004000
    ∷ asks 2 0x80005000 3
    ∷ asks 1 0x80005000 0
    ∷ []

-- "Output": its lines in ASCII
abbrev pub output : List ℕ
output =
    []
    ++ (49 ∷ 32 ∷ 51 ∷ 51 ∷ 32 ∷ 48 ∷ 32 ∷ 48 ∷ 10 ∷ [])  -- 1 33 0 0
    ++ (50 ∷ 32 ∷ 49 ∷ 32 ∷ 48 ∷ 32 ∷ 48 ∷ 10 ∷ [])  -- 2 1 0 0
    ++ (51 ∷ 32 ∷ 53 ∷ 32 ∷ 45 ∷ 49 ∷ 32 ∷ 55 ∷ 10 ∷ [])  -- 3 5 -1 7
    ++ (52 ∷ 32 ∷ 51 ∷ 32 ∷ 48 ∷ 32 ∷ 48 ∷ 10 ∷ [])  -- 4 3 0 0
    ++ (53 ∷ 32 ∷ 53 ∷ 32 ∷ 48 ∷ 32 ∷ 48 ∷ 10 ∷ [])  -- 5 5 0 0
    ++ (54 ∷ 32 ∷ 53 ∷ 32 ∷ 45 ∷ 53 ∷ 32 ∷ 54 ∷ 10 ∷ [])  -- 6 5 -5 6
    ++ (55 ∷ 32 ∷ 50 ∷ 32 ∷ 48 ∷ 32 ∷ 48 ∷ 10 ∷ [])  -- 7 2 0 0
    ++ (56 ∷ 32 ∷ 49 ∷ 32 ∷ 45 ∷ 51 ∷ 32 ∷ 52 ∷ 10 ∷ [])  -- 8 1 -3 4

-- and with one byte more a ninth record that is short: "9 short"
abbrev pub Example : Type 0
Example =
    (printed (tape_of input) ≡ output)
    × (printed (tape_of input ++ (0x43 ∷ [])) ≡ output ++ (57 ∷ 32 ∷ 115 ∷ 104 ∷ 111 ∷ 114 ∷ 116 ∷ 10 ∷ []))
