-- Numbers in bytes, the lowest first, there and back; and a part of a list by its elements.
-- Assumes nothing.
use Prim.Native.Nat.{ℕ, zero, suc, ◌+◌, ◌*◌, ◌/◌, ◌%◌, ◌^◌, ◌≤◌, ◌<◌}
use mathlib.Core.Path.{◌≡◌, refl, ap, ◌∙◌}
use mathlib.Core.List.{List, [], ◌∷◌}
use native.Mathlib.Nat.{add-zero, pow-suc}
use native.Mathlib.Omega.{arith}
use lib.ListN.{length, get_or, take, drop}
use lib.Seq.{take-nil, drop-nil, drop-cons}
use Rattle.tape.specs.Tape.{little, word, bytes}

-- n elements of a list, from the place k + j on
abbrev pub from : ℕ → List ℕ → ℕ → ℕ → List ℕ
from zero s k j = []
from (suc n) s k j = get_or s (k + j) 0 ∷ from n s k (suc j)

pub part_from : (n : ℕ) (s : List ℕ) (k j : ℕ) → k + j + n ≤ length s → take n (drop (k + j) s) ≡ from n s k j
part_from zero s k j h = refl
part_from (suc n) s k j h =
    let e : suc (k + j) ≡ k + suc j = omega arith in
    rw (drop-cons s (k + j) 0 (omega arith)) (ap (λ (l : List ℕ). get_or s (k + j) 0 ∷ l) (rw e (part_from n s k (suc j) (omega arith))))

-- a number's bytes by their places: one that is not there adds nothing
next_byte : (n : ℕ) (s : List ℕ) (m : ℕ) → little (take (suc n) (drop m s)) ≡ get_or s m 0 + 256 * little (take n (drop (suc m) s))
next_byte n [] m = simp (drop-nil, take-nil)
next_byte n (b ∷ bs) zero = refl
next_byte n (b ∷ bs) (suc m) = next_byte n bs m

little_from : (n : ℕ) (s : List ℕ) (k j : ℕ) → little (take n (drop (k + j) s)) ≡ little (from n s k j)
little_from zero s k j = refl
little_from (suc n) s k j =
    let e : suc (k + j) ≡ k + suc j = omega arith in
    rw (next_byte n s (k + j), e, little_from n s k (suc j))

pub word_at : (s : List ℕ) (k : ℕ)
    → word s k
    ≡ little (get_or s k 0 ∷ get_or s (k + 1) 0 ∷ get_or s (k + 2) 0 ∷ get_or s (k + 3) 0 ∷ get_or s (k + 4) 0 ∷ get_or s (k + 5) 0 ∷ get_or s (k + 6) 0 ∷ get_or s (k + 7) 0 ∷ [])
word_at s k = rw add-zero at (little_from 8 s k 0)

pub little-bytes : (n x : ℕ) → x < 256 ^ n → little (bytes n x) ≡ x
little-bytes zero x h = omega arith
little-bytes (suc n) x h = let e = little-bytes n (x / 256) (omega (arith, pow-suc 256 n)) in omega arith

pub bytes-little : (n : ℕ) (s : List ℕ) (k j : ℕ) → ((i : ℕ) → get_or s i 0 < 256) → bytes n (little (from n s k j)) ≡ from n s k j
bytes-little zero s k j h = refl
bytes-little (suc n) s k j h =
    let b = get_or s (k + j) 0 in
    let r = little (from n s k (suc j)) in
    let l = h (k + j) in
    let e₁ : (b + 256 * r) % 256 ≡ b = omega arith in
    let e₂ : (b + 256 * r) / 256 ≡ r = omega arith in
    λ x. e₁ x ∷ (ap (bytes n) e₂ ∙ bytes-little n s k (suc j) h) x
