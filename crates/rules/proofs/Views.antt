-- The squares: what storing each sort of word makes of the typed ledger.
-- Assumes nothing.
use Prim.Native.Nat.{ℕ, ◌+◌, ◌*◌, ◌<◌}
use mathlib.Core.Path.{◌≡◌, refl, ◌∙◌, ap, fun_ext}
use mathlib.Core.Logic.{inl, inr}
use native.Mathlib.Omega.{arith}
use lib.Dec.{eqb}
use borrow.Author.Tests.{eqb-true, ne_eqb}
use Rattle.sets.specs.Terms.{put}
use Rattle.sets.proofs.Bools.{by_test}
use Rattle.rules.specs.Ledger.{slot, with_slot, with_hart}
use Rattle.rules.specs.Encoding.{part, bits, tracker_of, upper, place_of, mark_of, view_of}
use Rattle.rules.proofs.Squares.{part_in, part_out, cells, cells_in, cells_out, same}

module _ (w : ℕ → ℕ) where
  -- a word that is not the one stored
  other : (p v j : ℕ) → (j ≡ p → ⊥) → put p v w j ≡ w j
  other p v j d = rw (ne_eqb j p d)

  pub view-global : (x : ℕ) → view_of (put 0 x w) ≡ record { harts = upper x; pages = (view_of w).pages; global = tracker_of x; slot = (view_of w).slot; hart = (view_of w).hart }
  unfolding view_of
  view-global x =
      same refl refl (part_out w 2 16 0 x (inl (omega arith))) (part_out w 18 16 0 x (inl (omega arith))) (cells_out w 34 16 8 0 x (inl (omega arith))) (cells_out w 162 16 8 0 x (inl (omega arith)))
      (part_out w 290 8 0 x (inl (omega arith))) (cells_out w 298 8 16 0 x (inl (omega arith)))

  pub view-pages : (x : ℕ) → view_of (put 1 x w) ≡ record { harts = (view_of w).harts; pages = x; global = (view_of w).global; slot = (view_of w).slot; hart = (view_of w).hart }
  unfolding view_of
  view-pages x =
      same refl refl (part_out w 2 16 1 x (inl (omega arith))) (part_out w 18 16 1 x (inl (omega arith))) (cells_out w 34 16 8 1 x (inl (omega arith))) (cells_out w 162 16 8 1 x (inl (omega arith)))
      (part_out w 290 8 1 x (inl (omega arith))) (cells_out w 298 8 16 1 x (inl (omega arith)))

  module _ (k x : ℕ) (h : k < 16) where
    pub view-fence : view_of (put (2 + k) x w) ≡ with_slot k (slot ((view_of w).slot k).phase (tracker_of x) (bits (upper x)) ((view_of w).slot k).region) (view_of w)
    unfolding view_of
    view-fence =
        same (other (2 + k) x 0 (λ e. omega arith)) (other (2 + k) x 1 (λ e. omega arith)) (part_in w 2 16 (2 + k) x k h refl) (part_out w 18 16 (2 + k) x (inl (omega arith)))
        (cells_out w 34 16 8 (2 + k) x (inl (omega arith))) (cells_out w 162 16 8 (2 + k) x (inl (omega arith))) (part_out w 290 8 (2 + k) x (inl (omega arith))) (cells_out w 298 8 16 (2 + k) x (inl (omega arith)))
        ∙ (λ i. record { harts = upper (w 0); pages = w 1; global = tracker_of (w 0); slot = fun_ext go i; hart = (view_of w).hart })
      where
        go : (j : ℕ) → record { phase = part w 18 16 j; fence = tracker_of (put k x (part w 2 16) j); made = bits (upper (put k x (part w 2 16) j)); region = ((view_of w).slot j).region }
            ≡ put k (slot ((view_of w).slot k).phase (tracker_of x) (bits (upper x)) ((view_of w).slot k).region) (view_of w).slot j
        go j = by_test (eqb j k) (λ q. rw (q, eqb-true j k q)) (λ q. rw q)

    pub view-phase : view_of (put (18 + k) x w) ≡ with_slot k (slot x ((view_of w).slot k).fence ((view_of w).slot k).made ((view_of w).slot k).region) (view_of w)
    unfolding view_of
    view-phase =
        same (other (18 + k) x 0 (λ e. omega arith)) (other (18 + k) x 1 (λ e. omega arith)) (part_out w 2 16 (18 + k) x (inr (omega arith))) (part_in w 18 16 (18 + k) x k h refl)
        (cells_out w 34 16 8 (18 + k) x (inl (omega arith))) (cells_out w 162 16 8 (18 + k) x (inl (omega arith))) (part_out w 290 8 (18 + k) x (inl (omega arith))) (cells_out w 298 8 16 (18 + k) x (inl (omega arith)))
        ∙ (λ i. record { harts = upper (w 0); pages = w 1; global = tracker_of (w 0); slot = fun_ext go i; hart = (view_of w).hart })
      where
        go : (j : ℕ) → record { phase = put k x (part w 18 16) j; fence = ((view_of w).slot j).fence; made = ((view_of w).slot j).made; region = ((view_of w).slot j).region }
            ≡ put k (slot x ((view_of w).slot k).fence ((view_of w).slot k).made ((view_of w).slot k).region) (view_of w).slot j
        go j = by_test (eqb j k) (λ q. rw (q, eqb-true j k q)) (λ q. rw q)

    -- region i of the slot: its first page, x, and how many there are, n
    pub view-region : (i n : ℕ) → i < 8 → view_of (put (162 + (8 * k + i)) n (put (34 + (8 * k + i)) x w))
        ≡ with_slot k (slot ((view_of w).slot k).phase ((view_of w).slot k).fence ((view_of w).slot k).made (put i (record { first = x; pages = n }) ((view_of w).slot k).region)) (view_of w)
    unfolding view_of
    view-region i n l =
        same (ap₂_out 0 (omega arith)) (ap₂_out 1 (omega arith)) (part_out u 2 16 q n (inr (omega arith)) ∙ part_out w 2 16 p x (inr (omega arith)))
        (part_out u 18 16 q n (inr (omega arith)) ∙ part_out w 18 16 p x (inr (omega arith))) (cells_out u 34 16 8 q n (inr (omega arith)) ∙ cells_in w 34 16 8 p x k i l (omega arith) refl)
        (cells_in u 162 16 8 q n k i l (omega arith) refl ∙ ap (λ (f : ℕ → ℕ → ℕ). put k (put i n (f k)) f) (cells_out w 162 16 8 p x (inl (omega arith))))
        (part_out u 290 8 q n (inl (omega arith)) ∙ part_out w 290 8 p x (inl (omega arith))) (cells_out u 298 8 16 q n (inl (omega arith)) ∙ cells_out w 298 8 16 p x (inl (omega arith)))
        ∙ (λ y. record { harts = upper (w 0); pages = w 1; global = tracker_of (w 0); slot = fun_ext go y; hart = (view_of w).hart })
      where
        p : ℕ
        p = 34 + (8 * k + i)

        q : ℕ
        q = 162 + (8 * k + i)

        u : ℕ → ℕ
        u = put p x w

        ap₂_out : (j : ℕ) → j < 34 → put q n u j ≡ w j
        ap₂_out j b = rw (ne_eqb j q (λ e. omega arith), ne_eqb j p (λ e. omega arith))

        column : (j : ℕ) → record { first = put i x (cells w 34 16 8 k) j; pages = put i n (cells w 162 16 8 k) j } ≡ put i (record { first = x; pages = n }) ((view_of w).slot k).region j
        column j = by_test (eqb j i) (λ e. rw e) (λ e. rw e)

        go : (j : ℕ) → slot ((view_of w).slot j).phase ((view_of w).slot j).fence ((view_of w).slot j).made
            (λ m. record { first = put k (put i x (cells w 34 16 8 k)) (cells w 34 16 8) j m; pages = put k (put i n (cells w 162 16 8 k)) (cells w 162 16 8) j m })
            ≡ put k (slot ((view_of w).slot k).phase ((view_of w).slot k).fence ((view_of w).slot k).made (put i (record { first = x; pages = n }) ((view_of w).slot k).region)) (view_of w).slot j
        go j = by_test (eqb j k)
            (λ e. rw (e, eqb-true j k e) (ap (slot ((view_of w).slot k).phase ((view_of w).slot k).fence ((view_of w).slot k).made) (fun_ext column)))
            (λ e. rw e)

  -- a hart's place, and its mark for a slot
  module _ (h x : ℕ) (l : h < 8) where
    pub view-place : view_of (put (290 + h) x w) ≡ with_hart h (record { place = place_of x; mark = ((view_of w).hart h).mark }) (view_of w)
    unfolding view_of
    view-place =
        same (other (290 + h) x 0 (λ e. omega arith)) (other (290 + h) x 1 (λ e. omega arith)) (part_out w 2 16 (290 + h) x (inr (omega arith))) (part_out w 18 16 (290 + h) x (inr (omega arith)))
        (cells_out w 34 16 8 (290 + h) x (inr (omega arith))) (cells_out w 162 16 8 (290 + h) x (inr (omega arith))) (part_in w 290 8 (290 + h) x h l refl) (cells_out w 298 8 16 (290 + h) x (inl (omega arith)))
        ∙ (λ y. record { harts = upper (w 0); pages = w 1; global = tracker_of (w 0); slot = (view_of w).slot; hart = fun_ext go y })
      where
        go : (j : ℕ) → record { place = place_of (put h x (part w 290 8) j); mark = ((view_of w).hart j).mark } ≡ put h (record { place = place_of x; mark = ((view_of w).hart h).mark }) (view_of w).hart j
        go j = by_test (eqb j h) (λ q. rw (q, eqb-true j h q)) (λ q. rw q)

    pub view-mark : (k : ℕ) → k < 16 → view_of (put (298 + (16 * h + k)) x w) ≡ with_hart h (record { place = ((view_of w).hart h).place; mark = put k (mark_of x) ((view_of w).hart h).mark }) (view_of w)
    unfolding view_of
    view-mark k m =
        let p = 298 + (16 * h + k) in
        same (other p x 0 (λ e. omega arith)) (other p x 1 (λ e. omega arith)) (part_out w 2 16 p x (inr (omega arith))) (part_out w 18 16 p x (inr (omega arith)))
        (cells_out w 34 16 8 p x (inr (omega arith))) (cells_out w 162 16 8 p x (inr (omega arith))) (part_out w 290 8 p x (inr (omega arith))) (cells_in w 298 8 16 p x h k m (omega arith) refl)
        ∙ (λ y. record { harts = upper (w 0); pages = w 1; global = tracker_of (w 0); slot = (view_of w).slot; hart = fun_ext go y })
      where
        column : (j : ℕ) → mark_of (put k x (cells w 298 8 16 h) j) ≡ put k (mark_of x) ((view_of w).hart h).mark j
        column j = by_test (eqb j k) (λ q. rw q) (λ q. rw q)

        go : (j : ℕ) → record { place = ((view_of w).hart j).place; mark = λ n. mark_of (put h (put k x (cells w 298 8 16 h)) (cells w 298 8 16) j n) }
            ≡ put h (record { place = ((view_of w).hart h).place; mark = put k (mark_of x) ((view_of w).hart h).mark }) (view_of w).hart j
        go j = by_test (eqb j h) (λ q. rw (q, eqb-true j h q) (λ y. record { place = ((view_of w).hart h).place; mark = fun_ext column y })) (λ q. rw q)
