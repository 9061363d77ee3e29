-- What follows where a reader took a record, and where it took none.
-- Assumes nothing.
use Prim.Native.Nat.{ℕ, ◌+◌}
use mathlib.Core.Path.{◌≡◌, refl, sym, ap, ◌∙◌, subst}
use mathlib.Core.List.{List}
use Rattle.std.specs.Prelude.{Some, None}
use Rattle.tape.specs.declared.record.Step.{Step}
use Rattle.tape.specs.declared.record.Step.TheVariants.{End, Short, Mark, Record}
use Rattle.tape.specs.declared.reader.Reader.{Reader}
use Rattle.tape.specs.declared.reader.Taken.{Taken}
use Rattle.tape.specs.Tape.{step_at, after_of, step_of, run_of}
use Rattle.tape.specs.Reader.{Takes}
use Rattle.tape.specs.Promises.{Stops}
use Rattle.tape.proofs.Readings.{Gone, gone_more, gone_stop}

after_stop : (t : Step) (at : ℕ) → Stops t → after_of t at ≡ at
after_stop End at k = refl
after_stop Short at k = refl
after_stop Mark at k = refl
after_stop (Record call hart next) at k = absurd k

-- the reader stays where no record stands
pub stays : (r r' : Reader) → Takes r None r' → r' ≡ r
stays r r' k = k.0 ∙ ap (λ (n : ℕ). record r { at = n }) (after_stop (step_of r) r.at k.1)

-- and is past a record that it took, on the same tape
module _ (r r' : Reader) (t : Taken) (k : Takes r (Some t) r') where
  pub past : r'.at ≡ r.at + 52
  past = ap (λ (x : Reader). x.at) k.0 ∙ ap (λ (s : Step). after_of s r.at) k.1.0

  pub same_tape : r'.tape.now ≡ r.tape.now
  same_tape = ap (λ (x : Reader). x.tape.now) k.0

-- ---- a run: the records so far, and all of them
pub one_more : (s : List ℕ) (n : ℕ) (r r' : Reader) (t : Taken) → Takes r (Some t) r' → (r.tape.now ≡ s) × Gone s n r.at → (r'.tape.now ≡ s) × Gone s (n + 1) r'.at
one_more s n r r' t k g =
    let there : step_at s r.at ≡ Record t.call t.hart (r.at + 52) = ap (λ (x : List ℕ). step_at x r.at) (sym g.0) ∙ k.1.0 in
    (same_tape r r' t k ∙ g.0, rw (past r r' t k) (gone_more s n r.at t.call t.hart (r.at + 52) g.1 there))

pub all_run : (s : List ℕ) (n : ℕ) (r r' : Reader) (end : Step) → Takes r None r' → (r.tape.now ≡ s) × Gone s n r.at → end ≡ step_of r' → record { records = n; end = end } ≡ run_of s
all_run s n r r' end k g e =
    let there : step_of r ≡ step_at s r.at = ap (λ (x : List ℕ). step_at x r.at) g.0 in
    ap (λ (t : Step). record { records = n; end = t }) (e ∙ ap step_of (stays r r' k) ∙ there)
    ∙ sym (gone_stop s n r.at g.1 (subst (λ (t : Step). Stops t) there k.1))
