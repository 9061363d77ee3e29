-- Text written after text is the two together. Assumes nothing.
use Prim.Native.Nat.{ℕ, suc, ◌+◌, ◌-◌, ◌≤◌}
use mathlib.Core.Path.{◌≡◌, refl, sym, ap, ◌∙◌}
use mathlib.Core.List.{List, [], ◌∷◌, ◌++◌, append_assoc}
use native.Mathlib.Nat.{add-zero}
use native.Mathlib.Omega.{arith}
use lib.ListN.{length, take, drop, set, length-append}
use lib.Seq.{sets, sets-eq, length-sets, take_at, length-take-le}
use borrow.Rule.Slice.PartMut.{put_mid, Post-is}
use Rattle.lines.specs.Text.{Written}

sets_append : (a b l : List ℕ) (at : ℕ) → sets l at (a ++ b) ≡ sets (sets l at a) (at + length a) b
sets_append [] b l at = rw add-zero
sets_append (x ∷ a) b l at = let e : at + suc (length a) ≡ suc at + length a = omega arith in rw e (sets_append a b (set l at x) (suc at))

pub joined : {a b x y z : List ℕ} {at mid end : ℕ} → Written a x at mid y → Written b y mid end z → Written (a ++ b) x at end z
joined {a} {b} {x} {y} {z} {at} {mid} {end} v w = record {
  place = omega (arith, v.place, w.place, length-append a b);
  bytes = w.bytes ∙ (λ i. sets (v.bytes i) (v.place i) b) ∙ sym (sets_append a b x at);
}

pub kept : {a x y : List ℕ} {at end : ℕ} → Written a x at end y → length y ≡ length x
kept {a} {x} {y} {at} w = ap length w.bytes ∙ length-sets x at a

pub none : (x : List ℕ) (at : ℕ) → Written [] x at at x
none x at = record { place = sym (add-zero at); bytes = refl }

-- what stands before a place, and a text from it on
pub up_to : {a x y : List ℕ} {at end : ℕ} → Written a x at end y → at + length a ≤ length x → take end y ≡ take at x ++ a
up_to {a} {x} {y} {at} {end} w h =
    ap (take end) (w.bytes ∙ sets-eq a x at h)
    ∙ take_at (take at x ++ a) (drop (at + length a) x) end (omega (arith, w.place, length-append (take at x) a, length-take-le at x (omega arith)))

-- a text laid down over a part of the bytes
pub laid : (text x : List ℕ) (at end : ℕ) → end ≡ at + length text → end ≤ length x → Written text x at end (put_mid at (end - at) x text)
laid text x at end e h = record {
  place = e;
  bytes =
      ap (λ (l : List ℕ). take at x ++ (text ++ l)) (Post-is at end x (omega arith) ∙ ap (λ (n : ℕ). drop n x) e) ∙ sym (append_assoc (take at x) text (drop (at + length text) x))
      ∙ sym (sets-eq text x at (omega arith));
}
