-- Part way through a tape: what is written, and what is still to come. Assumes nothing.
use Prim.Native.Nat.{ℕ, suc, ◌+◌, ◌-◌, ◌*◌, ◌/◌, ◌^◌, ◌<◌, ◌≤◌}
use mathlib.Core.Path.{◌≡◌, refl, sym, ap, subst, ◌∙◌}
use mathlib.Core.List.{List, [], ◌++◌, append_assoc}
use native.Mathlib.Nat.{sub-zero}
use native.Mathlib.Numerals.{add-one}
use native.Mathlib.Omega.{arith}
use lib.ListN.{length, length-append}
use Rattle.std.specs.Prelude.{Some, None}
use Rattle.rules.specs.Step.{Answer, State, answers}
use Rattle.rules.specs.Encoding.{Called, state_of}
use Rattle.tape.specs.declared.record.Step.{Step}
use Rattle.tape.specs.declared.record.Step.TheVariants.{Record}
use Rattle.tape.specs.Tape.{step_of, step_at, args_at, call_of, Reading, onward, read_from, reading}
use Rattle.tape.specs.Promises.{Stops}
use Rattle.tape.specs.Reader.{Takes}
use Rattle.tape.specs.declared.reader.Reader.{Reader}
use Rattle.tape.specs.declared.reader.Taken.{Taken}
use Rattle.tape.proofs.Takings.{past, same_tape, stays}
use Rattle.tape.proofs.Steps.{good}
use Rattle.tape.proofs.Readings.{stopped}
use Rattle.lines.specs.Text.{Written}
use Rattle.lines.specs.Lines.{line, bad, lines, lines_from}
use Rattle.lines.proofs.Writes.{none, joined, kept}

-- all that comes from a place on, where so many records are read
abbrev pub on_from : List ℕ → State → ℕ → ℕ → List ℕ
on_from tape s number at = lines_from number s (read_from (length tape / 52 - (number - 1)) tape at)

-- so far `done` is written, and record `number` is next, at `at`
pub record Printing (tape whole before ws b : List ℕ) (number at end : ℕ) (out : List ℕ) : Type 0 where
  pub done : List ℕ
  pub first : 1 ≤ number
  pub place : at + 52 ≡ 52 * number
  pub within : at ≤ length tape
  pub written : Written done before 0 end out
  pub few : length done + 33 ≤ 33 * number
  pub all : whole ≡ done ++ on_from tape (state_of ws b) number at

pub begun : (tape out ws b : List ℕ) → Printing tape (lines_from 1 (state_of ws b) (reading tape)) out ws b 1 0 0 out
begun tape out ws b = record {
  done = [];
  first = omega arith;
  place = refl;
  within = omega arith;
  written = none out 0;
  few = omega arith;
  all = rw sub-zero;
}

-- the next record: its line, then what comes after it
next_line : (tape ws b ws' b' : List ℕ) (number at call hart next : ℕ) (a : Answer) → 1 ≤ number → number ≤ length tape / 52
    → step_at tape at ≡ Record call hart next → Called ws b (call_of call hart (args_at tape at)) a ws' b'
    → on_from tape (state_of ws b) number at ≡ line number call a ++ on_from tape (state_of ws' b') (number + 1) (at + 52)
unfolding lines answers read_from
next_line tape ws b ws' b' number at call hart next a f l p d =
    let m = length tape / 52 - number in
    let r = read_from m tape (at + 52) in
    let e : length tape / 52 - (number - 1) ≡ suc m = omega arith in
    let q : m ≡ length tape / 52 - (number + 1 - 1) = omega arith in
    let one = ap (λ (k : ℕ). read_from k tape at) e ∙ ap (λ (t : Step). onward t (args_at tape at) r) p in
    ap (lines_from number (state_of ws b)) one
    ∙ (λ i. line number call (sym d.answer i) ++ lines_from (sym (add-one number) i) (sym d.state i) (read_from (q i) tape (at + 52)))

module _ {tape whole before ws b out : List ℕ} {number end : ℕ} {r r' : Reader} (e : r.tape.now ≡ tape)
    (g : Printing tape whole before ws b number r.at end out) where
  -- a record was taken: its line is written
  pub more : {ws' b' out' : List ℕ} {end' : ℕ} {a : Answer} (t : Taken) → Takes r (Some t) r' → Called ws b (call_of t.call t.hart t.args.now) a ws' b'
      → Written (line number t.call a) out end end' out' → length (line number t.call a) ≤ 33
      → (r'.tape.now ≡ tape) × Printing tape whole before ws' b' (number + 1) r'.at end' out'
  more {ws'} {b'} {out'} {end'} {a} t taken d w l =
      let there : step_at tape r.at ≡ Record t.call t.hart (r.at + 52) = ap (λ (x : List ℕ). step_at x r.at) (sym e) ∙ taken.1.0 in
      let args : t.args.now ≡ args_at tape r.at = taken.1.1 ∙ ap (λ (x : List ℕ). args_at x r.at) e in
      let k = good tape r.at t.call t.hart (r.at + 52) there in
      let next = next_line tape ws b ws' b' number r.at t.call t.hart (r.at + 52) a g.first (omega (arith, g.place, k.within)) there (rw args at d) in
      let rest = on_from tape (state_of ws' b') (number + 1) (r.at + 52) in (
        same_tape r r' t taken ∙ e,
        rw (past r r' t taken) (record {
          done = g.done ++ line number t.call a;
          first = omega arith;
          place = omega (arith, g.place);
          within = k.within;
          written = joined g.written w;
          few = omega (arith, g.few, l, length-append g.done (line number t.call a));
          all = g.all ∙ ap (λ (x : List ℕ). g.done ++ x) next ∙ sym (append_assoc g.done (line number t.call a) rest);
        }),
      )

  -- none was: what is left is the line of the bad one, where the reader stays
  pub ending : {out' : List ℕ} {end' : ℕ} (t : Step) → Takes r None r' → t ≡ step_of r' → Written (bad number t) out end end' out'
      → Written whole before 0 end' out'
  unfolding lines answers
  ending t none p w =
      let there : t ≡ step_at tape r.at = p ∙ ap step_of (stays r r' none) ∙ ap (λ (x : List ℕ). step_at x r.at) e in
      let stop = stopped (length tape / 52 - (number - 1)) tape r.at (subst (λ (x : Step). Stops x) (ap (λ (x : List ℕ). step_at x r.at) e) none.1) in
      let q = g.all ∙ ap (λ (x : Reading). g.done ++ lines_from number (state_of ws b) x) stop ∙ ap (λ (x : Step). g.done ++ bad number x) (sym there) in
      rw q (joined g.written w)

-- ---- room
module _ {tape whole before ws b out : List ℕ} {number at end : ℕ} (g : Printing tape whole before ws b number at end out) (l : length tape ≤ 65536) where
  -- for one line more
  pub one_fits : (k : ℕ) → k ≤ 33 → 41613 ≤ length before → end + k ≤ length out
  one_fits k h r = omega (arith, g.few, g.place, g.within, g.written.place, kept g.written)

  pub small-number : number < 10 ^ 4
  small-number = omega (arith, g.place, g.within)
