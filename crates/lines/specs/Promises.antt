-- What is proved of the definitions, and what follows from the promise of `print`, as statements.
use Rattle.std.specs.Prelude.{ℕ, ◌+◌, ◌-◌, ◌*◌, ◌≤◌, ◌≡◌, List, [], ◌∷◌, length}
use Rattle.lines.specs.Text.{decimal}
use Rattle.lines.specs.Lines.{Printed}

-- what digits say, after those that said n
abbrev pub reads : ℕ → List ℕ → ℕ
reads n [] = n
reads n (d ∷ ds) = reads (10 * n + (d - 48)) ds

-- The digits of a number say that number, so no two numbers print alike
abbrev pub DecimalReads : Type 0
DecimalReads = (n : ℕ) → reads 0 (decimal n) ≡ n

-- The end is in the lent bytes: what is printed has room
abbrev pub Within : Type 0
Within = (tape before : List ℕ) (end : ℕ) (after : List ℕ) → Printed tape before end after → end ≤ length after

-- Demand 2, of the printer: one answer, and one buffer
abbrev pub OnePrinting : Type 0
OnePrinting =
    (tape before : List ℕ) (end end' : ℕ) (after after' : List ℕ) → Printed tape before end after → Printed tape before end' after'
    → (end ≡ end') × (after ≡ after')
