-- The reading of a tape, from an offset on and from its start: one induction for all that is said of it, that it ends, and where it stands part way.
-- Assumes nothing.
use Prim.Native.Nat.{ℕ, zero, suc, ◌+◌, ◌-◌, ◌*◌, ◌/◌, ◌≤◌, ◌<◌}
use mathlib.Core.Path.{◌≡◌, refl, sym, ap, ◌∙◌}
use mathlib.Core.List.{List, [], ◌∷◌}
use native.Mathlib.Nat.{add-zero, zero-add, sub-zero}
use native.Mathlib.Omega.{arith}
use lib.ListN.{length}
use Rattle.rules.specs.declared.Call.{Call}
use Rattle.tape.specs.declared.record.Step.{Step}
use Rattle.tape.specs.declared.record.Step.TheVariants.{End, Short, Mark, Record}
use Rattle.tape.specs.Tape.{step_at, args_at, call_of, Reading, onward, read_from, reading, run_of}
use Rattle.tape.specs.Promises.{Stops, ReadingEnds}
use Rattle.tape.proofs.Steps.{good, none_left}

abbrev pub ended : Step → Reading
ended t = record { calls = []; ending = t }

abbrev pub joined : Call → Reading → Reading
joined c r = record { calls = c ∷ r.calls; ending = r.ending }

onward_stop : (t : Step) (args : List ℕ) (r : Reading) → Stops t → onward t args r ≡ ended t
onward_stop End args r k = refl
onward_stop Short args r k = refl
onward_stop Mark args r k = refl
onward_stop (Record c h n) args r k = absurd k

pub stopped : (most : ℕ) (s : List ℕ) (at : ℕ) → Stops (step_at s at) → read_from most s at ≡ ended (step_at s at)
unfolding read_from
stopped zero s at k = refl
stopped (suc most) s at k = onward_stop (step_at s at) (args_at s at) (read_from most s (at + 52)) k

-- What holds of every reading from an offset, where room for one more record than `most` is not left: one induction for all that is said of them
module _ (s : List ℕ) (P : ℕ → Reading → Type 0)
    (stop : (at : ℕ) (t : Step) → step_at s at ≡ t → Stops t → P at (ended t))
    (pass : (at call hart next : ℕ) (r : Reading) → step_at s at ≡ Record call hart next → P (at + 52) r → P at (joined (call_of call hart (args_at s at)) r)) where
  by_reading : (most at : ℕ) → length s < at + 52 * most + 52 → P at (read_from most s at)
  unfolding read_from
  by_reading zero at l = stop at (step_at s at) refl (none_left s at (omega arith))
  by_reading (suc most) at l = go (step_at s at) refl (by_reading most (at + 52) (omega arith))
    where
      go : (t : Step) → step_at s at ≡ t → P (at + 52) (read_from most s (at + 52)) → P at (onward t (args_at s at) (read_from most s (at + 52)))
      go End p h = stop at End p tt
      go Short p h = stop at Short p tt
      go Mark p h = stop at Mark p tt
      go (Record call hart next) p h = pass at call hart next (read_from most s (at + 52)) p h

  pub of_reading : P 0 (reading s)
  of_reading = by_reading _ 0 (omega arith)

-- ---- part way: n records are read, up to the offset `at`
pub record Gone (s : List ℕ) (n at : ℕ) : Type 0 where
  pub place : at ≡ 52 * n
  pub within : at ≤ length s
  pub count : length (reading s).calls ≡ n + length (read_from (length s / 52 - n) s at).calls
  pub ending : (reading s).ending ≡ (read_from (length s / 52 - n) s at).ending

pub gone_more : (s : List ℕ) (n at call hart next : ℕ) → Gone s n at → step_at s at ≡ Record call hart next → Gone s (n + 1) (at + 52)
unfolding read_from
gone_more s n at call hart next g p =
    let w = good s at call hart next p in
    let m = length s / 52 - (n + 1) in
    let e : length s / 52 - n ≡ suc m = omega arith in
    let one = ap (λ (k : ℕ). read_from k s at) e ∙ ap (λ (t : Step). onward t (args_at s at) (read_from m s (at + 52))) p in
    let all = g.count ∙ ap (λ (r : Reading). n + length r.calls) one in
    record { place = omega arith; within = w.within; count = omega (arith, all); ending = g.ending ∙ ap (λ (r : Reading). r.ending) one }

pub gone_stop : (s : List ℕ) (n at : ℕ) → Gone s n at → Stops (step_at s at) → run_of s ≡ record { records = n; end = step_at s at }
gone_stop s n at g k =
    let e = stopped (length s / 52 - n) s at k in
    let all = g.count ∙ ap (λ (r : Reading). n + length r.calls) e ∙ add-zero n in
    let end = g.ending ∙ ap (λ (r : Reading). r.ending) e in
    λ x. record { records = all x; end = end x }

pub reading_ends : ReadingEnds
reading_ends s =
    rw zero-add at (of_reading s P (λ at t p k l. (k, rw add-zero (sym p), omega arith)) pass (omega arith))
  where
    P : ℕ → Reading → Type 0
    P at r = at ≤ length s → Stops r.ending × (r.ending ≡ step_at s (at + 52 * length r.calls)) × (at + 52 * length r.calls ≤ length s)

    pass : (at call hart next : ℕ) (r : Reading) → step_at s at ≡ Record call hart next → P (at + 52) r → P at (joined (call_of call hart (args_at s at)) r)
    pass at call hart next r p ih l =
        let e : at + 52 * suc (length r.calls) ≡ at + 52 + 52 * length r.calls = omega arith in
        let g = good s at call hart next p in
        rw e (ih g.within)
