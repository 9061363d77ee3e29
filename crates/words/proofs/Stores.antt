-- The words read and stored, as parts of the typed ledger.
-- Assumes nothing.
use Prim.Native.Nat.{ℕ, ◌+◌, ◌-◌, ◌*◌, ◌/◌, ◌%◌, ◌<◌, ◌≤◌}
use mathlib.Core.Path.{◌≡◌, refl, ◌∙◌, ap, fun_ext}
use mathlib.Core.Bool.{true}
use mathlib.Core.List.{List}
use mathlib.Core.Option.{some}
use native.Mathlib.Omega.{arith}
use lib.Arith.{digits_div, digits_mod}
use lib.Dec.{ltb, eqb}
use lib.ListN.{replicate}
use borrow.Author.Tests.{le-ltb, eq-eqb, ne_eqb}
use Rattle.sets.specs.Terms.{put}
use Rattle.sets.proofs.Bools.{by_test}
use Rattle.sets.proofs.Laws.{member_none}
use Rattle.rules.specs.Ledger.{Ledger, Slot, Hart, Place, with_global, with_slot, with_hart, slot, inside, opened, start, flushes}
use Rattle.rules.specs.Encoding.{read, part, cell, bits, tracker_of, upper, place_of, mark_of, view_of, view}
use Rattle.rules.proofs.Views.{view-global, view-pages, view-fence, view-place, view-mark}
use Rattle.rules.proofs.Unique.{zeros-unopened}
use Rattle.fences.specs.Trackers.{tracker_at}
use Rattle.words.specs.Parts.{Packed}

-- ---- a fence's word
module _ {v a u r : ℕ} (p : Packed v a u r) where
  whole : r ≡ (u * 256 + a) * 65536 + v
  whole = p.is ∙ omega arith

  low : r % 65536 ≡ v
  low = ap (λ (x : ℕ). x % 65536) whole ∙ digits_mod (u * 256 + a) p.version-fits

  high : r / 65536 ≡ u * 256 + a
  high = ap (λ (x : ℕ). x / 65536) whole ∙ digits_div (u * 256 + a) p.version-fits

  mid : r / 65536 % 256 ≡ a
  mid = ap (λ (x : ℕ). x % 256) high ∙ digits_mod u p.awaited-fits

  pub packed_tracker : tracker_of r ≡ tracker_at v a
  packed_tracker = λ i. record { version = low i; awaited = bits (mid i) }

  pub packed-upper : upper r ≡ u
  packed-upper =
      let q : r ≡ u * 16777216 + (a * 65536 + v) = p.is ∙ omega arith in
      ap (λ (x : ℕ). x / 16777216) q ∙ digits_div u (omega (arith, p.version-fits, p.awaited-fits))

pub stored_global : (ws ws' : List ℕ) {v a r : ℕ} → Packed v a (upper (read ws 0)) r → read ws' ≡ put 0 r (read ws) → view ws' ≡ with_global (tracker_at v a) (view ws)
unfolding view_of
stored_global ws ws' {v} {a} {r} p e =
    ap view_of e ∙ view-global (read ws) r
    ∙ (λ i. record { harts = packed-upper p i; pages = (view ws).pages; global = packed_tracker p i; slot = (view ws).slot; hart = (view ws).hart })

pub stored_fence : (ws ws' : List ℕ) (k : ℕ) {v a u r : ℕ} → k < 16 → Packed v a u r → read ws' ≡ put (2 + k) r (read ws)
    → view ws' ≡ with_slot k (slot ((view ws).slot k).phase (tracker_at v a) (bits u) ((view ws).slot k).region) (view ws)
stored_fence ws ws' k {v} {a} {u} {r} h p e =
    ap view_of e ∙ view-fence (read ws) k r h
    ∙ ap (λ (s : Slot). with_slot k s (view ws)) (λ i. slot ((view ws).slot k).phase (packed_tracker p i) (bits (packed-upper p i)) ((view ws).slot k).region)

-- ---- a word past the end of its run is 0
pub part_past : (w : ℕ → ℕ) (base n i : ℕ) → n ≤ i → part w base n i ≡ 0
part_past w base n i h = rw (le-ltb i n h)

pub cell-row_past : (w : ℕ → ℕ) (base columns rows k i : ℕ) → rows * columns ≤ columns * k + i → cell w base rows columns k i ≡ 0
cell-row_past w base columns rows k i h = by_test (ltb i columns) (λ e. rw (e, le-ltb (columns * k + i) (rows * columns) h)) (λ e. rw e)

-- ---- places and marks
pub place-word : (k v : ℕ) → v < 8 → place_of (8 * k + v + 1) ≡ inside k v
place-word k v h =
    let n : (8 * k + v + 1 ≡ 0 → ⊥) = λ e. omega arith in
    let d : (8 * k + v + 1 - 1) / 8 ≡ k = omega arith in
    let m : (8 * k + v + 1 - 1) % 8 ≡ v = omega arith in
    rw (ne_eqb (8 * k + v + 1) 0 n, d, m)

pub mark-word : (v : ℕ) → mark_of (v + 1) ≡ some v
mark-word v =
    let n : (v + 1 ≡ 0 → ⊥) = λ e. omega arith in
    let m : v + 1 - 1 ≡ v = omega arith in
    rw (ne_eqb (v + 1) 0 n, m)

-- a part put twice is put once
put-put : {A : Type 0} (k : ℕ) (a b : A) (f : ℕ → A) → put k a (put k b f) ≡ put k a f
put-put k a b f = fun_ext (λ j. by_test (eqb j k) (λ e. rw e) (λ e. rw e))

put_here : {A : Type 0} (k : ℕ) (a : A) (f : ℕ → A) → put k a f k ≡ a
put_here k a f = rw (eq-eqb k k refl)

pub stored_inside : (ws ws₁ ws₂ : List ℕ) (h k v m : ℕ) → h < 8 → k < 16 → v < 8 → read ws₁ ≡ put (290 + h) (8 * k + v + 1) (read ws) → read ws₂ ≡ put (298 + (16 * h + k)) (m + 1) (read ws₁)
    → view ws₂ ≡ with_hart h (record { place = inside k v; mark = put k (some m) ((view ws).hart h).mark }) (view ws)
stored_inside ws ws₁ ws₂ h k v m lh lk lv e f =
    ap view_of f ∙ view-mark (read ws₁) h (m + 1) lh k lk
    ∙ ap (λ (l : Ledger). with_hart h (record { place = (l.hart h).place; mark = put k (mark_of (m + 1)) (l.hart h).mark }) l) first
    ∙ rw (put_here h at_place (view ws).hart, mark-word m)
    (λ i. record { harts = (view ws).harts; pages = (view ws).pages; global = (view ws).global; slot = (view ws).slot; hart = put-put h (record { place = inside k v; mark = put k (some m) ((view ws).hart h).mark }) at_place (view ws).hart i })
  where
    at_place : Hart
    at_place = record { place = inside k v; mark = ((view ws).hart h).mark }

    first : view ws₁ ≡ with_hart h at_place (view ws)
    first = ap view_of e ∙ view-place (read ws) h (8 * k + v + 1) lh ∙ ap (λ (p : Place). with_hart h (record { place = p; mark = ((view ws).hart h).mark }) (view ws)) (place-word k v lv)

-- what open leaves: zeros, then the sizes
pub stored_sizes : (ws₀ ws₁ ws₂ : List ℕ) (harts pages : ℕ) → ws₀ ≡ replicate 426 0 → read ws₁ ≡ put 0 (16777216 * harts) (read ws₀) → read ws₂ ≡ put 1 pages (read ws₁)
    → view ws₂ ≡ opened harts pages
stored_sizes ws₀ ws₁ ws₂ harts pages z e f =
    ap view_of f ∙ view-pages (read ws₁) pages
    ∙ ap (λ (l : Ledger). record { harts = l.harts; pages = pages; global = l.global; slot = l.slot; hart = l.hart })
    (ap view_of e ∙ view-global (read ws₀) (16777216 * harts)
    ∙ ap (λ (l : Ledger). record { harts = upper (16777216 * harts); pages = l.pages; global = tracker_of (16777216 * harts); slot = l.slot; hart = l.hart }) (ap view z ∙ zeros-unopened))
    ∙ (λ i. record { harts = up i; pages = pages; global = blank i; slot = (opened harts pages).slot; hart = (opened harts pages).hart })
  where
    up : upper (16777216 * harts) ≡ harts
    up = omega arith

    low : 16777216 * harts % 65536 ≡ 0
    low = omega arith

    mid : 16777216 * harts / 65536 % 256 ≡ 0
    mid = omega arith

    blank : tracker_of (16777216 * harts) ≡ start
    blank = λ i. record { version = low i; awaited = (ap bits mid ∙ fun_ext member_none) i }

-- ---- whether entry flushes, by the mark's word
pub flushes_never : (x v : ℕ) → x ≡ 0 → true ≡ flushes (mark_of x) v
flushes_never x v e = rw e

pub flushes_past : (x v : ℕ) → (x - 1 < 65536 → ⊥) → v < 65536 → true ≡ flushes (mark_of x) v
flushes_past x v h l =
    let z : (x ≡ 0 → ⊥) = λ e. omega arith in
    let n : (x - 1 ≡ v → ⊥) = λ e. omega arith in
    rw (ne_eqb x 0 z, ne_eqb (x - 1) v n)

pub flushes_at : (x v : ℕ) → (x ≡ 0 → ⊥) → flushes (some (x - 1)) v ≡ flushes (mark_of x) v
flushes_at x v z = rw (ne_eqb x 0 z)
