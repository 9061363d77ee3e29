-- A word stored is a part of the typed ledger put anew: one law for each sort of word.
-- Assumes nothing.
use Prim.Native.Nat.{ℕ, ◌+◌, ◌*◌, ◌/◌, ◌%◌, ◌≤◌, ◌<◌}
use mathlib.Core.Path.{◌≡◌, refl, sym, ◌∙◌, ap, fun_ext}
use mathlib.Core.Logic.{◌⊎◌, ⊎_elim}
use mathlib.Core.Bool.{Bool, true, false, cond}
use mathlib.Core.List.{List}
use native.Mathlib.Nat.{mul_comm}
use native.Mathlib.Omega.{arith}
use lib.Arith.{digits_div, digits_mod}
use lib.Dec.{ltb, eqb}
use lib.ListN.{length, set}
use lib.Seq.{get_or-set_same, get_or-set_other}
use borrow.Author.Tests.{eqb-true, eqb-false, eq-eqb, ne_eqb, lt-ltb, ltb-true, ltb-false}
use Rattle.sets.specs.Terms.{put}
use Rattle.sets.proofs.Bools.{by_test}
use Rattle.rules.specs.Ledger.{Ledger}
use Rattle.rules.specs.Encoding.{read, part, cell, bits, tracker_of, upper, place_of, mark_of, view_of}

-- a store is a put
pub store : (ws : List ℕ) (i v : ℕ) → i < length ws → read (set ws i v) ≡ put i v (read ws)
store ws i v b = fun_ext (λ j. by_test (eqb j i)
    (λ e. rw (e, eqb-true j i e) (get_or-set_same ws i v 0 b))
    (λ e. rw e (get_or-set_other ws i j v 0 (eqb-false j i e))))

-- ---- a put inside a run of words, and outside it
module _ (w : ℕ → ℕ) (base n p v : ℕ) where
  pub part_out : (p < base) ⊎ (base + n ≤ p) → part (put p v w) base n ≡ part w base n
  part_out o = fun_ext (λ i. by_test (ltb i n)
      (λ e. let l = ltb-true i n e in rw (e, ne_eqb (base + i) p (λ q. ⊎_elim (λ z. omega arith) (λ z. omega arith) o)))
      (λ e. rw e))

  pub part_in : (i : ℕ) → i < n → base + i ≡ p → part (put p v w) base n ≡ put i v (part w base n)
  part_in i l q = fun_ext (λ j. by_test (eqb j i)
      (λ e. rw (e, eqb-true j i e, lt-ltb i n l, q, eq-eqb p p refl))
      (λ e. let d = eqb-false j i e in rw (e, ne_eqb (base + j) p (λ z. d (omega arith)))))

-- rows of words: the function of row and column
abbrev pub cells : (ℕ → ℕ) → ℕ → ℕ → ℕ → ℕ → ℕ → ℕ
cells w base rows columns k i = cell w base rows columns k i

module _ (w : ℕ → ℕ) (base rows columns p v : ℕ) where
  pub cells_out : (p < base) ⊎ (base + rows * columns ≤ p) → cells (put p v w) base rows columns ≡ cells w base rows columns
  cells_out o = fun_ext (λ k. fun_ext (λ i. ap (λ (f : ℕ → ℕ). cond (ltb i columns) (f (columns * k + i)) 0) (part_out w base (rows * columns) p v o)))

  -- rows and columns are told apart
  apart : (k i k' i' : ℕ) → i < columns → i' < columns → columns * k + i ≡ columns * k' + i' → (k ≡ k') × (i ≡ i')
  apart k i k' i' l l' e =
      let q : k * columns + i ≡ k' * columns + i' = rw (mul_comm k columns, mul_comm k' columns) e in
      (sym (digits_div k l) ∙ ap (λ (x : ℕ). x / columns) q ∙ digits_div k' l', sym (digits_mod k l) ∙ ap (λ (x : ℕ). x % columns) q ∙ digits_mod k' l')

  pub cells_in : (k i : ℕ) → i < columns → columns * k + i < rows * columns → base + (columns * k + i) ≡ p
      → cells (put p v w) base rows columns ≡ put k (put i v (cells w base rows columns k)) (cells w base rows columns)
  cells_in k i l h q = fun_ext (λ k'. fun_ext (λ i'. go k' i'))
    where
      at : (k' i' : ℕ) → i' < columns → cells (put p v w) base rows columns k' i' ≡ put (columns * k + i) v (part w base (rows * columns)) (columns * k' + i')
      at k' i' l' = rw (lt-ltb i' columns l') (ap (λ (f : ℕ → ℕ). f (columns * k' + i')) (part_in w base (rows * columns) p v (columns * k + i) h q))

      here : (k' i' : ℕ) → i' < columns → cells (put p v w) base rows columns k' i' ≡ cond (eqb k' k) (cond (eqb i' i) v (cells w base rows columns k i')) (cells w base rows columns k' i')
      here k' i' l' = at k' i' l' ∙ by_test (eqb k' k)
          (λ e. by_test (eqb i' i)
          (λ f. rw (e, f, eqb-true k' k e, eqb-true i' i f, eq-eqb (columns * k + i) (columns * k + i) refl))
          (λ f. let d = eqb-false i' i f in rw (e, f, eqb-true k' k e, ne_eqb (columns * k + i') (columns * k + i) (λ z. d (apart k i' k i l' l z).1), lt-ltb i' columns l')))
          (λ e. let d = eqb-false k' k e in rw (e, ne_eqb (columns * k' + i') (columns * k + i) (λ z. d (apart k' i' k i l' l z).0), lt-ltb i' columns l'))

      past : (k' i' : ℕ) → ltb i' columns ≡ false → cells (put p v w) base rows columns k' i' ≡ cond (eqb k' k) (cond (eqb i' i) v (cells w base rows columns k i')) (cells w base rows columns k' i')
      past k' i' f = rw (f, ne_eqb i' i (λ z. let y = ltb-false i' columns f in omega arith)) (same (eqb k' k))
        where
          same : (b : Bool) → ◌≡◌ {A = ℕ} 0 (cond b 0 0)
          same true = refl
          same false = refl

      go : (k' i' : ℕ) → cells (put p v w) base rows columns k' i' ≡ put k (put i v (cells w base rows columns k)) (cells w base rows columns) k' i'
      go k' i' = by_test (ltb i' columns) (λ f. here k' i' (ltb-true i' columns f) ∙ split (eqb k' k)) (λ f. past k' i' f ∙ split (eqb k' k))
        where
          split : (b : Bool) → cond b (cond (eqb i' i) v (cells w base rows columns k i')) (cells w base rows columns k' i')
              ≡ cond b (put i v (cells w base rows columns k)) (cells w base rows columns k') i'
          split true = refl
          split false = refl

-- ---- the typed ledger from its runs of words
abbrev pub ledger_from : ℕ → ℕ → (ℕ → ℕ) → (ℕ → ℕ) → (ℕ → ℕ → ℕ) → (ℕ → ℕ → ℕ) → (ℕ → ℕ) → (ℕ → ℕ → ℕ) → Ledger
ledger_from global pages fences phases firsts lengths places marks = record {
  harts = upper global;
  pages = pages;
  global = tracker_of global;
  slot = λ k. record {
    phase = phases k;
    fence = tracker_of (fences k);
    made = bits (upper (fences k));
    region = λ i. record { first = firsts k i; pages = lengths k i };
  };
  hart = λ j. record { place = place_of (places j); mark = λ k. mark_of (marks j k) };
}

pub view-is : (w : ℕ → ℕ) → view_of w ≡ ledger_from (w 0) (w 1) (part w 2 16) (part w 18 16) (cells w 34 16 8) (cells w 162 16 8) (part w 290 8) (cells w 298 8 16)
unfolding view_of
view-is w = refl

pub same : {a a' b b' : ℕ} {c c' d d' : ℕ → ℕ} {e e' f f' : ℕ → ℕ → ℕ} {g g' : ℕ → ℕ} {h h' : ℕ → ℕ → ℕ} → a ≡ a' → b ≡ b' → c ≡ c' → d ≡ d' → e ≡ e' → f ≡ f' → g ≡ g' → h ≡ h'
    → ledger_from a b c d e f g h ≡ ledger_from a' b' c' d' e' f' g' h'
same a b c d e f g h = λ x. ledger_from (a x) (b x) (c x) (d x) (e x) (f x) (g x) (h x)
