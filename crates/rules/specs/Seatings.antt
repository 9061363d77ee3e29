-- Document 01, "Seatings on each side of a line": S1 to S8 and S13 to S16, two harts and 16 pages, fresh each time. S10 and S11, of those
-- that are run, stand here too: they guard the hart's mark and the slot's version.
use Rattle.std.specs.Prelude.{ℕ, List, [], ◌∷◌, ◌++◌, map}
use Rattle.rules.specs.Page.{Table, page}
use Rattle.rules.specs.Calls.{Call}
use Rattle.rules.specs.Step.{Answer, Accepted, Refused, unopened, answers}

-- a call and what it is told
pub record Line : Type 0 where
  pub call : Call
  pub told : Answer

-- on hart h: the call n with arguments x, y and z is accepted with the value v, or refused with the number v
abbrev call : ℕ → ℕ → ℕ → ℕ → ℕ → Call
call h n x y z = record { number = n; hart = h; a0 = x; a1 = y; a2 = z; a3 = 0; a4 = 0; a5 = 0 }

abbrev yes : ℕ → ℕ → ℕ → ℕ → ℕ → ℕ → Line
yes h n x y z v = record { call = call h n x y z; told = Accepted v }

abbrev no : ℕ → ℕ → ℕ → ℕ → ℕ → ℕ → Line
no h n x y z v = record { call = call h n x y z; told = Refused v }

-- the first n pages converted, and the fence done; and a TVM in slot 0
abbrev freed : ℕ → List Line
freed n = yes 0 1 0x80000000 n 0 0 ∷ yes 0 3 0 0 0 1 ∷ yes 1 4 0 0 0 0 ∷ []

abbrev made : ℕ → List Line
made n = freed n ++ (yes 0 5 0x80000000 0x80004000 0 0 ∷ [])

-- zero: one page at the address to guest page 0 of TVM 0
abbrev zeroed : ℕ → Line
zeroed a = record { call = record { number = 12; hart = 0; a0 = 0; a1 = a; a2 = 0; a3 = 1; a4 = 0; a5 = 0 }; told = Accepted 0 }

abbrev pub seatings : List (List Line)
seatings =
    -- S1: convert the last page; one page past it; the page below memory
    (yes 0 1 0x8000F000 1 0 0 ∷ [])
    ∷ (no 0 1 0x8000F000 2 0 5 ∷ [])
    ∷ (no 0 1 0x7FFFF000 1 0 5 ∷ [])
    -- S2, S3, S4
    ∷ (no 0 1 0x80000800 4097 0 4 ∷ [])
    ∷ (no 0 1 0x80000800 1 0 5 ∷ [])
    ∷ (yes 0 1 0x80000000 1 0 0 ∷ no 0 1 0x80000000 1 0 6 ∷ [])
    -- S5: convert, reclaim, global fence, reclaim, local fence on hart 1, reclaim
    ∷ (yes 0 1 0x80000000 1 0 0 ∷ no 0 2 0x80000000 1 0 7 ∷ yes 0 3 0 0 0 1 ∷ no 0 2 0x80000000 1 0 7 ∷ yes 1 4 0 0 0 0 ∷ yes 0 2 0x80000000 1 0 0 ∷ [])
    -- S6: global fence twice
    ∷ (yes 0 3 0 0 0 1 ∷ no 0 3 0 0 0 8 ∷ [])
    -- S7: a page converted during a global fence, which then ends
    ∷ (yes 0 3 0 0 0 1 ∷ yes 0 1 0x80000000 1 0 0 ∷ yes 1 4 0 0 0 0 ∷ no 0 2 0x80000000 1 0 7 ∷ [])
    -- S8: vCPU 0 made, finalized; enter, leave, enter
    ∷ (made 6 ++ (yes 0 14 0 0 0x80005000 0 ∷ yes 0 6 0 0 0 0 ∷ yes 0 15 0 0 0 1 ∷ yes 0 32 0 0 0 0 ∷ yes 0 15 0 0 0 0 ∷ []))
    -- S10: vCPU 0 on hart 0 leaves; vCPU 1 enters hart 1; block, fence; hart 1 leaves, enters, leaves; vCPU 1 enters hart 0
    ∷ (made 8
    ++ (yes 0 14 0 0 0x80005000 0 ∷ yes 0 14 0 1 0x80006000 0 ∷ yes 0 9 0 0 0x1000 0 ∷ yes 0 6 0 0 0 0 ∷ zeroed 0x80007000 ∷ yes 0 15 0 0 0 1 ∷ yes 0 32 0 0 0 0
    ∷ yes 1 15 0 1 0 1 ∷ yes 0 17 0 0 0x1000 0 ∷ yes 0 16 0 0 0 1 ∷ yes 1 32 0 0 0 1 ∷ yes 1 15 0 1 0 1 ∷ yes 1 32 0 0 0 1 ∷ yes 0 15 0 1 0 1 ∷ []))
    -- S11: entered, left and destroyed; a new TVM in its slot: first entry
    ∷ (made 6
    ++ (yes 0 14 0 0 0x80005000 0 ∷ yes 0 6 0 0 0 0 ∷ yes 0 15 0 0 0 1 ∷ yes 0 32 0 0 0 0 ∷ yes 0 8 0 0 0 0
    ∷ yes 0 5 0x80000000 0x80004000 0 0 ∷ yes 0 14 0 0 0x80005000 0 ∷ yes 0 6 0 0 0 0 ∷ yes 0 15 0 0 0 1 ∷ []))
    -- S13
    ∷ (no 0 32 0 0 0 15 ∷ [])
    -- S14: a region of 2^32 bytes; one that ends past 2^32
    ∷ (made 5 ++ (yes 0 9 0 0 0x100000000 0 ∷ []))
    ∷ (made 5 ++ (no 0 9 0 0xFFFFF000 0x2000 5 ∷ []))
    -- S15, S16
    ∷ (no 0 7 0 0 0 1 ∷ [])
    ∷ (freed 5 ++ (no 0 5 0x80000000 0x80003000 0 5 ∷ []))
    ∷ []

-- each is played from an unopened ledger, after open with two harts and 16 pages
abbrev sixteen : Table
sixteen = record { bytes = 128; page = λ i. page 0 0 0 0 }

abbrev opening : List Line → List Line
opening s = yes 0 33 2 16 0 0 ∷ s

abbrev pub played : List Line → List Answer
played s = answers (unopened sixteen) (map (λ x. x.call) (opening s))

abbrev pub wanted : List Line → List Answer
wanted s = map (λ x. x.told) (opening s)
