-- A pass that writes: the records below i that are chosen are written anew. And a part of the bytes written is a range of the records written.
-- Assumes nothing.
use Prim.Native.Nat.{ℕ, ◌+◌, ◌*◌, ◌-◌, ◌≤◌, ◌<◌}
use mathlib.Core.Path.{◌≡◌, sym, ap, ◌∙◌, fun_ext}
use mathlib.Core.Logic.{◌⊎◌, inl, inr, ⊎_elim}
use mathlib.Core.Bool.{Bool, true, false, ◌&&◌, cond}
use mathlib.Core.List.{List}
use native.Mathlib.Omega.{arith}
use lib.Dec.{leb, ltb, eqb}
use borrow.Rule.Slice.PartMut.{mid_of, put_mid}
use lib.ListN.{length, drop, length-take, length-drop}
use borrow.Author.Tests.{leb-true, leb-false, ltb-true, ltb-false, lt-ltb, le-ltb, eqb-true, eqb-false}
use Rattle.sets.specs.Terms.{within}
use Rattle.sets.proofs.Bools.{by_test}
use Rattle.rules.specs.declared.Page.{Page}
use Rattle.rules.specs.Page.{Table, over}
use Rattle.rules.specs.Encoding.{page_at, pages_of}
use Rattle.records.specs.Passes.{put_page}
use Rattle.records.proofs.Bytes.{page_ext}
use Rattle.records.proofs.Parts.{put_in, put_out, put_length}

abbrev pub up_to : Table → (ℕ → Bool) → (ℕ → Page) → ℕ → Table
up_to t which new i = over t (λ j. ltb j i && which j) new

pub over_ext : (t : Table) (p q : ℕ → Bool) (new : ℕ → Page) → ((i : ℕ) → p i ≡ q i) → over t p new ≡ over t q new
over_ext t p q new h = λ x. record { bytes = t.bytes; page = λ i. cond (h i x) (new i) (t.page i) }

module _ (t : Table) (which : ℕ → Bool) (new : ℕ → Page) where
  pub pass_none : t ≡ up_to t which new 0
  pass_none = λ x. record { bytes = t.bytes; page = fun_ext (λ j. go j) x }
    where
      go : (j : ℕ) → t.page j ≡ cond (ltb j 0 && which j) (new j) (t.page j)
      go j = rw (le-ltb j 0 (omega arith))

  -- the next record, other than those before it
  next : (i j : ℕ) → (eqb j i ≡ false) → (ltb j (i + 1) && which j) ≡ (ltb j i && which j)
  next i j q =
      let z = eqb-false j i q in
      by_test (ltb j i) (λ y. let l = ltb-true j i y in rw (y, lt-ltb j (i + 1) (omega arith))) (λ y. let l = ltb-false j i y in rw (y, le-ltb j (i + 1) (omega arith)))

  pub pass_put : (i : ℕ) (t' : Table) → t' ≡ up_to t which new i → which i ≡ true → put_page i (new i) t' ≡ up_to t which new (i + 1)
  pass_put i t' e s = ap (put_page i (new i)) e ∙ (λ x. record { bytes = t.bytes; page = fun_ext (λ j. go j) x })
    where
      go : (j : ℕ) → cond (eqb j i) (new i) (cond (ltb j i && which j) (new j) (t.page j)) ≡ cond (ltb j (i + 1) && which j) (new j) (t.page j)
      go j = by_test (eqb j i) (λ q. rw (q, eqb-true j i q, s, lt-ltb i (i + 1) (omega arith))) (λ q. rw (q, next i j q))

  pub pass_skip : (i : ℕ) (t' : Table) → t' ≡ up_to t which new i → which i ≡ false → t' ≡ up_to t which new (i + 1)
  pass_skip i t' e s = e ∙ over_ext t _ _ new go
    where
      go : (j : ℕ) → (ltb j i && which j) ≡ (ltb j (i + 1) && which j)
      go j = by_test (eqb j i) (λ q. rw (eqb-true j i q, s, lt-ltb i (i + 1) (omega arith), le-ltb i i (omega arith))) (λ q. sym (next i j q))

  -- at the end, where none from i on is chosen
  pub pass_end : (i : ℕ) → ((j : ℕ) → i ≤ j → which j ≡ false) → up_to t which new i ≡ over t which new
  pass_end i h = over_ext t (λ j. ltb j i && which j) which new (λ j. by_test (ltb j i) (λ e. rw e) (λ e. rw (e, h j (ltb-false j i e))))

  -- the record at hand is still as it was
  pub at_hand : (i : ℕ) (t' : Table) → t' ≡ up_to t which new i → t'.page i ≡ t.page i
  at_hand i t' e = ap (λ (x : Table). x.page i) e ∙ rw (le-ltb i i (omega arith))

-- ---- a part of the bytes, n records from record a on, that a callee wrote
module _ (t ys : List ℕ) (a n : ℕ) (new : ℕ → Page) (h : 8 * (a + n) ≤ length t)
    (e : pages_of ys ≡ over (pages_of (mid_of (8 * a) (8 * (a + n) - 8 * a) t)) (λ i. ltb i n) new) where
  k : ℕ
  k = 8 * (a + n) - 8 * a

  k_is : k ≡ 8 * n
  unfolding k
  k_is = omega arith

  long : length ys ≡ k
  unfolding pages_of k
  long = ap (λ (x : Table). x.bytes) e ∙ omega (arith, length-take (8 * (a + n) - 8 * a) (drop (8 * a) t), length-drop (8 * a) t)

  whole : List ℕ
  whole = put_mid (8 * a) k t ys

  page_out : (i : ℕ) → (i < a) ⊎ (a + n ≤ i) → page_at whole (8 * i) ≡ page_at t (8 * i)
  unfolding whole
  page_out i o = page_ext whole t (8 * i) (8 * i) (λ x l. put_out (8 * a) k t ys long (omega (arith, k_is)) (8 * i + x) (⊎_elim (λ y. inl (omega arith)) (λ y. inr (omega (arith, k_is))) o))

  page_in : (i : ℕ) → a ≤ i → i < a + n → page_at whole (8 * i) ≡ new (i - a)
  unfolding pages_of whole
  page_in i m l =
      page_ext whole ys (8 * i) (8 * (i - a))
      (λ x b. let z : 8 * i + x ≡ 8 * a + (8 * (i - a) + x) = omega arith in rw z (put_in (8 * a) k t ys long (omega (arith, k_is)) (8 * (i - a) + x) (omega (arith, k_is))))
      ∙ ap (λ (x : Table). x.page (i - a)) e ∙ rw (lt-ltb (i - a) n (omega arith))

  pub part-written : pages_of (put_mid (8 * a) (8 * (a + n) - 8 * a) t ys) ≡ over (pages_of t) (within a n) (λ i. new (i - a))
  unfolding pages_of whole k
  part-written = λ x. record { bytes = put_length (8 * a) k t ys long (omega (arith, k_is)) x; page = fun_ext go x }
    where
      go : (i : ℕ) → page_at whole (8 * i) ≡ cond (leb a i && ltb i (a + n)) (new (i - a)) (page_at t (8 * i))
      go i = by_test (leb a i)
          (λ y. by_test (ltb i (a + n))
          (λ z. rw (y, z) (page_in i (leb-true a i y) (ltb-true i (a + n) z)))
          (λ z. rw (y, z) (page_out i (inr (ltb-false i (a + n) z)))))
          (λ y. rw y (page_out i (inl (leb-false a i y))))
