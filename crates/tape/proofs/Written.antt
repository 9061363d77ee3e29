-- What is written is read, and what was read is written: reading a tape yields exactly its records, in order.
-- Assumes nothing.
use Prim.Native.Nat.{ℕ, zero, suc, ◌+◌, ◌*◌, ◌/◌, ◌≤◌, ◌<◌}
use mathlib.Core.Path.{◌≡◌, refl, sym, ap, ◌∙◌}
use mathlib.Core.List.{List, [], ◌∷◌, ◌++◌, append_assoc, append-nil}
use native.Mathlib.Nat.{add-zero, zero-add}
use native.Mathlib.Omega.{arith}
use lib.Dec.{eqb}
use lib.ListN.{length, get_or, take, drop, length-append, take-append-drop}
use lib.Seq.{drop-drop}
use borrow.Author.Tests.{eqb-true}
use Rattle.sets.proofs.Bools.{and_left, and_right}
use Rattle.rules.specs.declared.Call.{Call}
use Rattle.tape.specs.declared.record.Step.{Step}
use Rattle.tape.specs.declared.record.Step.TheVariants.{Record}
use Rattle.tape.specs.Tape.{step_at, part_of, args_at, little, call_of, Reading, onward, read_from, bytes, written, tape_of}
use Rattle.tape.specs.Promises.{Fits, AllFit, Stops, WrittenIsRead, WrittenEnds, ReadIsWritten}
use Rattle.tape.proofs.Little.{from, part_from, little-bytes, bytes-little}
use Rattle.tape.proofs.Steps.{good, is_good, args_good, moved, moved_stop, step_after, args_after}
use Rattle.tape.proofs.Readings.{ended, joined, stopped, of_reading}

-- ---- a written record is read
abbrev args : Call → List ℕ
args c = bytes 8 c.a0 ++ (bytes 8 c.a1 ++ (bytes 8 c.a2 ++ (bytes 8 c.a3 ++ (bytes 8 c.a4 ++ bytes 8 c.a5))))

call_back : (c : Call) → Fits c → call_of c.number c.hart (args c) ≡ c
call_back c f = λ x. record {
  number = c.number;
  hart = c.hart;
  a0 = little-bytes 8 c.a0 f.a0 x;
  a1 = little-bytes 8 c.a1 f.a1 x;
  a2 = little-bytes 8 c.a2 f.a2 x;
  a3 = little-bytes 8 c.a3 f.a3 x;
  a4 = little-bytes 8 c.a4 f.a4 x;
  a5 = little-bytes 8 c.a5 f.a5 x;
}

module _ (c : Call) (rest : List ℕ) where
  written_step : step_at (written c ++ rest) 0 ≡ Record c.number c.hart 52
  unfolding written
  written_step = is_good (written c ++ rest) 0 (omega arith) refl

  written_args : args_at (written c ++ rest) 0 ≡ args c
  unfolding written
  written_args = ap (λ (t : Step). part_of t (args c)) written_step

written-long : (c : Call) → length (written c) ≡ 52
unfolding written
written-long c = refl

tape_long : (cs : List Call) → length (tape_of cs) ≡ 52 * length cs
unfolding tape_of
tape_long [] = refl
tape_long (c ∷ cs) = omega (arith, length-append (written c) (tape_of cs), written-long c, tape_long cs)

read_on : (cs : List Call) (front after : List ℕ) (most : ℕ) → AllFit cs → Stops (step_at after 0) → length cs ≤ most
    → read_from most (front ++ (tape_of cs ++ after)) (length front) ≡ record { calls = cs; ending = step_at after 0 }
unfolding read_from tape_of
read_on [] front after most f k l =
    let e = step_after front after ∙ moved_stop (length front) (step_at after 0) k in
    stopped most (front ++ after) (length front) (rw e k) ∙ ap ended e
read_on (c ∷ cs) front after zero f k l = absurd (omega arith)
read_on (c ∷ cs) front after (suc most) f k l =
    let rest = tape_of cs ++ after in
    let long : length (front ++ written c) ≡ length front + 52 = length-append front (written c) ∙ ap (λ (n : ℕ). length front + n) (written-long c) in
    let e₁ = step_after front (written c ++ rest) ∙ ap (moved (length front)) (written_step c rest) in
    let e₂ = args_after front (written c ++ rest) ∙ written_args c rest in
    let e₃ : read_from most (front ++ (written c ++ rest)) (length front + 52) ≡ record { calls = cs; ending = step_at after 0 } =
    rw (append_assoc front (written c) rest, long) at (read_on cs (front ++ written c) after most f.1 k (omega arith)) in
    rw (append_assoc (written c) (tape_of cs) after)
    ((λ x. onward (e₁ x) (e₂ x) (e₃ x)) ∙ ap (λ (d : Call). joined d (record { calls = cs; ending = step_at after 0 })) (call_back c f.0))

pub written-is-read : WrittenIsRead
written-is-read cs after f k =
    read_on cs [] after (length (tape_of cs ++ after) / 52) f k (omega (arith, length-append (tape_of cs) after, tape_long cs))

pub written_ends : WrittenEnds
written_ends cs f = rw append-nil at (written-is-read cs [] f tt)

-- ---- a record that was read is written
record_back : (s : List ℕ) (at call hart next : ℕ) → ((i : ℕ) → get_or s i 0 < 256) → step_at s at ≡ Record call hart next
    → written (call_of call hart (args_at s at)) ≡ take 52 (drop at s)
unfolding written
record_back s at call hart next h p =
    let g = good s at call hart next p in
    let args_are = args_good s at call hart next p ∙ part_from 48 s at 4 (omega arith) in
    let all_are : take 52 (drop at s) ≡ from 52 s at 0 = ap (λ (n : ℕ). take 52 (drop n s)) (sym (add-zero at)) ∙ part_from 52 s at 0 (omega arith) in
    let first : 67 ≡ get_or s (at + 0) 0 = rw add-zero (sym (eqb-true (get_or s at 0) 67 (and_left (eqb (get_or s at 0) 67) (eqb (get_or s (at + 1) 0) 86) g.is-marked))) in
    let second : 86 ≡ get_or s (at + 1) 0 = sym (eqb-true (get_or s (at + 1) 0) 86 (and_right (eqb (get_or s at 0) 67) (eqb (get_or s (at + 1) 0) 86) g.is-marked)) in
    let eight : (j : ℕ) → bytes 8 (little (from 8 s at j)) ≡ from 8 s at j = λ j. bytes-little 8 s at j h in
    ap (λ (l : List ℕ). written (call_of call hart l)) args_are
    ∙ (λ x. first x ∷ second x ∷ g.call_at x ∷ g.hart_at x ∷ eight 4 x ++ (eight 12 x ++ (eight 20 x ++ (eight 28 x ++ (eight 36 x ++ eight 44 x)))))
    ∙ sym all_are

pub read-is-written : ReadIsWritten
unfolding tape_of
read-is-written s b =
    rw zero-add at (of_reading s (λ at r. tape_of r.calls ++ drop (at + 52 * length r.calls) s ≡ drop at s) (λ at t p k. rw add-zero) pass)
  where
    pass : (at call hart next : ℕ) (r : Reading) → step_at s at ≡ Record call hart next → tape_of r.calls ++ drop (at + 52 + 52 * length r.calls) s ≡ drop (at + 52) s
        → (written (call_of call hart (args_at s at)) ++ tape_of r.calls) ++ drop (at + 52 * suc (length r.calls)) s ≡ drop at s
    pass at call hart next r p ih =
        let e : at + 52 * suc (length r.calls) ≡ at + 52 + 52 * length r.calls = omega arith in
        rw (append_assoc, e, ih, record_back s at call hart next b.small p, ← drop-drop 52 at s) (take-append-drop 52 (drop at s))
