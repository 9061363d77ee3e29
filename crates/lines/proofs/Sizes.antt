-- How long a line is: no more than 33 bytes. Assumes nothing.
use Prim.Native.Nat.{ℕ, ◌+◌, zero, suc, ◌^◌, ◌<◌, ◌≤◌}
use mathlib.Core.Path.{◌≡◌, refl, ap}
use mathlib.Core.Bool.{Bool, true, ◌&&◌}
use mathlib.Core.List.{List, [], ◌∷◌, ◌++◌, append_assoc}
use native.Mathlib.Omega.{arith}
use lib.Dec.{leb}
use lib.IntN.{ℤ, pos}
use lib.ListN.{length, get_or, length-append}
use borrow.Author.Tests.{leb-true}
use Rattle.sets.proofs.Bools.{and_left, and_right}
use Rattle.rules.specs.Step.{Answer, Accepted, Refused, errors, error_of, value_of}
use Rattle.tape.specs.declared.record.Step.{Step}
use Rattle.tape.specs.declared.record.Step.TheVariants.{End, Short, Mark, Record}
use Rattle.lines.specs.Text.{digits, decimal, signed, blank, newline}
use Rattle.lines.specs.Lines.{told, line, short, mark, noted, bad}
use Rattle.lines.proofs.Decimals.{at_most}

abbrev two_each : List ℤ → Bool
two_each [] = true
two_each (e ∷ es) = leb (length (signed e)) 2 && two_each es

two_at : (es : List ℤ) (n : ℕ) → two_each es ≡ true → length (signed (get_or es n (pos 0))) ≤ 2
unfolding digits
two_at [] n h = omega arith
two_at (e ∷ es) zero h = leb-true (length (signed e)) 2 (and_left (leb (length (signed e)) 2) (two_each es) h)
two_at (e ∷ es) (suc n) h = two_at es n (and_right (leb (length (signed e)) 2) (two_each es) h)

-- every error is one digit, with a sign or without
error-size : (a : Answer) → length (signed (error_of a)) ≤ 2
unfolding digits
error-size (Accepted v) = omega arith
error-size (Refused n) = two_at errors n refl

told-size : (a : Answer) → value_of a < 10 ^ 20 → length (told (error_of a) (value_of a)) ≤ 24
told-size a h =
    let e = signed (error_of a) in
    let v = decimal (value_of a) in
    omega (arith, error-size a, at_most 19 (value_of a) h, length-append e blank, length-append (e ++ blank) v, length-append (e ++ blank ++ v) newline)

-- a line by its fields
pub line_parts : (number call : ℕ) (a : Answer)
    → line number call a ≡ decimal number ++ blank ++ (decimal call ++ blank) ++ told (error_of a) (value_of a)
unfolding line
line_parts number call a = ap (λ (l : List ℕ). l ++ told (error_of a) (value_of a)) (append_assoc (decimal number ++ blank) (decimal call) blank)

pub parts-size : (number call : ℕ) (a : Answer) → number < 10 ^ 4 → call < 10 ^ 3 → value_of a < 10 ^ 20
    → length (decimal number ++ blank) + length (decimal call ++ blank) + length (told (error_of a) (value_of a)) ≤ 33
parts-size number call a h k l =
    omega (arith, at_most 3 number h, at_most 2 call k, told-size a l, length-append (decimal number) blank, length-append (decimal call) blank)

noted-size : (number : ℕ) (w : List ℕ) → number < 10 ^ 4 → length w ≤ 5 → length (noted number w) ≤ 33
noted-size number w h l =
    let n = decimal number in
    omega (arith, at_most 3 number h, length-append n blank, length-append (n ++ blank) w, length-append (n ++ blank ++ w) newline)

pub bad-size : (number : ℕ) (t : Step) → number < 10 ^ 4 → length (bad number t) ≤ 33
bad-size number End h = omega arith
bad-size number Short h = noted-size number short h (omega arith)
bad-size number Mark h = noted-size number mark h (omega arith)
bad-size number (Record call hart next) h = omega arith
