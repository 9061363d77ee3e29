-- The promise of `print`: from what was written, and what follows from it. Assumes nothing.
use Prim.Native.Nat.{ℕ, ◌≤◌}
use mathlib.Core.Path.{◌≡◌, sym, ap, ◌∙◌}
use mathlib.Core.List.{List, ◌++◌}
use native.Mathlib.Omega.{arith}
use lib.ListN.{length, take, drop, length-take, take-append-drop}
use lib.Seq.{sets-eq, take_at, drop_at}
use Rattle.lines.specs.Text.{Written}
use Rattle.lines.specs.Lines.{printed, Printed}
use Rattle.lines.specs.Promises.{Within, OnePrinting}

-- what was written from the first byte on is what stands there
pub printed-is : {s text before after : List ℕ} {end : ℕ} → printed s ≡ text → Written text before 0 end after → end ≤ length before → Printed s before end after
printed-is {s} {text} {before} {after} {end} p w h =
    let size : end ≡ length text = omega (arith, w.place) in
    let whole : after ≡ text ++ drop end before =
    w.bytes ∙ sets-eq text before 0 (omega arith) ∙ ap (λ (k : ℕ). text ++ drop k before) (sym w.place) in
    record {
      size = size ∙ ap length (sym p);
      first = ap (take end) whole ∙ take_at text (drop end before) end (sym size) ∙ sym p;
      rest = ap (drop end) whole ∙ drop_at text (drop end before) end (sym size);
    }

pub within : Within
within tape before end after p = omega (arith, p.size, ap length p.first, length-take end after)

pub one_printing : OnePrinting
one_printing tape before end end' after after' p q =
    let e : end ≡ end' = p.size ∙ sym q.size in
    let same : take end after ++ drop end after ≡ take end' after' ++ drop end' after' =
    (λ i. (p.first ∙ sym q.first) i ++ (p.rest ∙ ap (λ (k : ℕ). drop k before) e ∙ sym q.rest) i) in
    (e, sym (take-append-drop end after) ∙ same ∙ take-append-drop end' after')
