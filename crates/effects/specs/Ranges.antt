-- A range of pages that a call names, and what is written over it.
use Rattle.std.specs.Prelude.{ℕ, ◌+◌, ◌-◌, ◌*◌, ◌≤◌, Bool, cond, ◌||◌, List, length}
use Rattle.sets.specs.Terms.{within}
use Rattle.rules.specs.declared.Page.{Page}
use Rattle.rules.specs.Page.{Table, over, page, guest_word}
use Rattle.rules.specs.Calls.{memory, index}

-- it is in the table, and not longer than a table may be
abbrev pub InTable : ℕ → ℕ → List ℕ → Type 0
InTable base pages b = (memory ≤ base) × (8 * (index base + pages) ≤ length b) × (pages ≤ 4096)

-- every page written anew
abbrev pub given : Table → ℕ → ℕ → (ℕ → Page) → Table
given t base pages p = over t (within (index base) pages) p

-- "page i of a range goes to guest page i"
abbrev pub mapping : ℕ → ℕ → ℕ → Bool → ℕ → Page
mapping base slot first large i = page 7 slot 0 (guest_word (first + (i - index base)) large)

-- the four pages of the directory, and the state page
abbrev pub founded : Table → ℕ → ℕ → ℕ → Table
founded t directory state slot =
    over t (λ i. within (index directory) 4 i || within (index state) 1 i) (λ i. page (cond (within (index directory) 4 i) 3 4) slot 0 0)
