-- What a run starts from: zero bytes, a ledger that is not open, and as many records as the first record asks for. Assumes nothing.
use Prim.Native.Nat.{ℕ, zero, suc, ◌*◌, ◌/◌, ◌<◌, ◌≤◌}
use mathlib.Core.Path.{◌≡◌, refl, ap}
use mathlib.Core.Bool.{cond}
use mathlib.Core.List.{List, ◌∷◌, ◌++◌}
use native.Mathlib.Omega.{arith}
use lib.Dec.{leb}
use lib.ListN.{length, take, replicate, length-replicate}
use borrow.Author.Tests.{lt-ltb, le-ltb}
use Rattle.rules.specs.Encoding.{state_of, pages_of}
use Rattle.rules.proofs.Unique.{zeros-unopened}
use Rattle.tape.specs.declared.record.Step.{Step}
use Rattle.tape.specs.declared.record.Step.TheVariants.{End, Short, Mark, Record}
use Rattle.tape.specs.Tape.{step_at, args_at, word, onward, read_from, reading, Reading}
use Rattle.tape.specs.Promises.{Stops}
use Rattle.tape.proofs.Steps.{none_left}
use Rattle.lines.specs.Text.{newline}
use Rattle.lines.specs.Lines.{handed, zeros, start, lines_from, long, printed}

pub length-zeros : (n : ℕ) → length (zeros n) ≡ n
unfolding zeros
length-zeros n = length-replicate n 0

-- the front of zero bytes
take-replicate : (n m : ℕ) → n ≤ m → take {A = ℕ} n (replicate m 0) ≡ replicate n 0
take-replicate zero m h = refl
take-replicate (suc n) zero h = absurd (omega arith)
take-replicate (suc n) (suc m) h = ap (λ (l : List ℕ). 0 ∷ l) (take-replicate n m (omega arith))

pub take-zeros : (n m : ℕ) → n ≤ m → take n (zeros m) ≡ zeros n
unfolding zeros
take-zeros n m h = take-replicate n m h

-- zero words and zero bytes are where a run starts
pub started : (records : ℕ) (b : List ℕ) → b ≡ zeros (8 * records) → state_of (replicate 426 0) b ≡ start records
started records b e = λ i. record { ledger = zeros-unopened i; table = pages_of (e i) }

-- ---- as many records as the first record's a1
abbrev pub fitting : ℕ → ℕ
fitting n = cond (leb n 4096) n 0

module _ (s : List ℕ) where
  by_step : (t : Step) (r : Reading) → step_at s 0 ≡ t → handed (onward t (args_at s 0) r).calls ≡ fitting (word (args_at s 0) 8)
  by_step End r p = rw p
  by_step Short r p = rw p
  by_step Mark r p = rw p
  by_step (Record call hart next) r p = refl

  by_stop : (t : Step) → step_at s 0 ≡ t → Stops t → 0 ≡ fitting (word (args_at s 0) 8)
  by_stop End p k = rw p
  by_stop Short p k = rw p
  by_stop Mark p k = rw p
  by_stop (Record call hart next) p k = absurd k

  by_room : (most : ℕ) → length s / 52 ≡ most → handed (read_from most s 0).calls ≡ fitting (word (args_at s 0) 8)
  unfolding read_from
  by_room zero e = by_stop (step_at s 0) refl (none_left s 0 (omega arith))
  by_room (suc most) e = by_step (step_at s 0) (read_from most s 52) refl

  pub handed-is : handed (reading s).calls ≡ fitting (word (args_at s 0) 8)
  handed-is = by_room (length s / 52) refl

  -- ---- a longer tape, and one that is read
  pub printed-long : 65536 < length s → printed s ≡ long ++ newline
  unfolding printed
  printed-long h = rw (lt-ltb 65536 (length s) h)

  pub printed-lines : length s ≤ 65536 → printed s ≡ lines_from 1 (start (handed (reading s).calls)) (reading s)
  unfolding printed
  printed-lines h = rw (le-ltb 65536 (length s) h)
