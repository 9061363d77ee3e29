-- The parts of a record stored are the record put, and what a record is does not hang on other bytes.
-- Assumes nothing.
use Prim.Native.Nat.{ℕ, ◌+◌, ◌*◌, ◌/◌, ◌%◌, ◌≤◌, ◌<◌, ◌^◌}
use mathlib.Core.Path.{◌≡◌, sym, ◌∙◌, fun_ext}
use mathlib.Core.Logic.{◌⊎◌, inl, inr, ⊎_elim}
use mathlib.Core.List.{List, [], ◌∷◌}
use native.Mathlib.Decide.{dec_lt}
use native.Mathlib.Nat.{add-zero}
use native.Mathlib.Omega.{arith}
use lib.Dec.{eqb}
use lib.ListN.{length, get_or, set, length-set, get_or-eq_default}
use borrow.Rule.Slice.PartMut.{put_mid}
use lib.Seq.{get_or-set_same, get_or-set_other}
use borrow.Author.Tests.{eqb-true, eqb-false}
use Rattle.sets.specs.Terms.{put}
use Rattle.sets.proofs.Bools.{by_test}
use Rattle.rules.specs.declared.Page.{Page}
use Rattle.rules.specs.Page.{page}
use Rattle.rules.specs.Encoding.{page_at, pages_of}
use Rattle.records.specs.Passes.{put_page}
use Rattle.records.proofs.Parts.{put_in, put_out, put_length}

-- the same eight bytes make the same record
pub page_ext : (t u : List ℕ) (a b : ℕ) → ((k : ℕ) → k < 8 → get_or t (a + k) 0 ≡ get_or u (b + k) 0) → page_at t a ≡ page_at u b
page_ext t u a b h =
    let e0 : get_or t a 0 ≡ get_or u b 0 = rw (add-zero, add-zero) at (h 0 (omega arith)) in
    let e1 = h 1 (omega arith) in
    let e2 = h 2 (omega arith) in
    let e3 = h 3 (omega arith) in
    let e4 = h 4 (omega arith) in
    let e5 = h 5 (omega arith) in
    let e6 = h 6 (omega arith) in
    let e7 = h 7 (omega arith) in
    cc

-- past the bytes a record reads as zeros
pub page_past : (t : List ℕ) (i : ℕ) → length t ≤ 8 * i → (pages_of t).page i ≡ page 0 0 0 0
unfolding pages_of
page_past t i h = page_ext t [] (8 * i) 0 (λ k l. get_or-eq_default t 0 {n = 8 * i + k} (omega arith))

-- the two bytes of a version, and the four of a guest word
abbrev two : ℕ → List ℕ
two n = n % 256 ∷ n / 256 % 256 ∷ []

abbrev four : ℕ → List ℕ
four n = n % 256 ∷ n / 256 % 256 ∷ n / 65536 % 256 ∷ n / 16777216 % 256 ∷ []

-- the first two bytes stored, and the parts of two and of four after them
module _ (t : List ℕ) (i : ℕ) (p : Page) (h : 8 * i + 8 ≤ length t) (small : (p.version < 2 ^ 16) × (p.guest < 2 ^ 32)) (k l : ℕ) (two_of : k ≡ 2) (four_of : l ≡ 4) where
  heads : List ℕ
  heads = set (set t (8 * i) p.kind) (8 * i + 1) p.slot

  heads_length : length heads ≡ length t
  unfolding heads
  heads_length = length-set (set t (8 * i) p.kind) (8 * i + 1) p.slot ∙ length-set t (8 * i) p.kind

  versioned : List ℕ
  versioned = put_mid (8 * i + 2) k heads (two p.version)

  room : 8 * i + 2 + k ≤ length heads
  room = omega (arith, heads_length)

  versioned_length : length versioned ≡ length t
  unfolding versioned
  versioned_length = put_length (8 * i + 2) k heads (two p.version) (sym two_of) room ∙ heads_length

  u : List ℕ
  u = put_mid (8 * i + 4) l versioned (four p.guest)

  room' : 8 * i + 4 + l ≤ length versioned
  room' = omega (arith, versioned_length)

  long : length u ≡ length t
  unfolding u
  long = put_length (8 * i + 4) l versioned (four p.guest) (sym four_of) room' ∙ versioned_length

  -- a byte before the guest word, and one before the version
  low : (j : ℕ) → j < 8 * i + 4 → get_or u j 0 ≡ get_or versioned j 0
  unfolding u
  low j b = put_out (8 * i + 4) l versioned (four p.guest) (sym four_of) room' j (inl b)

  head : (j : ℕ) → j < 8 * i + 2 → get_or u j 0 ≡ get_or heads j 0
  unfolding versioned
  head j b = low j (omega arith) ∙ put_out (8 * i + 2) k heads (two p.version) (sym two_of) room j (inl b)

  at_version : (x : ℕ) → x < 2 → get_or u (8 * i + (2 + x)) 0 ≡ get_or (two p.version) x 0
  unfolding versioned
  at_version x b =
      let q : 8 * i + (2 + x) ≡ 8 * i + 2 + x = omega arith in
      rw q (low (8 * i + 2 + x) (omega arith) ∙ put_in (8 * i + 2) k heads (two p.version) (sym two_of) room x (omega arith))

  at_guest : (x : ℕ) → x < 4 → get_or u (8 * i + (4 + x)) 0 ≡ get_or (four p.guest) x 0
  unfolding u
  at_guest x b =
      let q : 8 * i + (4 + x) ≡ 8 * i + 4 + x = omega arith in
      rw q (put_in (8 * i + 4) l versioned (four p.guest) (sym four_of) room' x (omega arith))

  here : page_at u (8 * i) ≡ p
  unfolding heads
  here =
      let e0 : (page_at u (8 * i)).kind ≡ p.kind =
      head (8 * i) (omega arith)
      ∙ get_or-set_other (set t (8 * i) p.kind) (8 * i + 1) (8 * i) p.slot 0 (λ e. omega arith)
      ∙ get_or-set_same t (8 * i) p.kind 0 (omega arith) in
      let e1 : (page_at u (8 * i)).slot ≡ p.slot =
      head (8 * i + 1) (omega arith) ∙ get_or-set_same (set t (8 * i) p.kind) (8 * i + 1) p.slot 0 (omega (arith, length-set t (8 * i) p.kind)) in
      let e2 : (page_at u (8 * i)).version ≡ p.version = omega (arith, at_version 0 (omega arith), at_version 1 (omega arith), small.0) in
      let e3 : (page_at u (8 * i)).guest ≡ p.guest =
      omega (arith, at_guest 0 (omega arith), at_guest 1 (omega arith), at_guest 2 (omega arith), at_guest 3 (omega arith), small.1) in
      λ x. record { kind = e0 x; slot = e1 x; version = e2 x; guest = e3 x }

  other : (j : ℕ) → (8 * i + 8 ≤ j) ⊎ (j < 8 * i) → get_or u j 0 ≡ get_or t j 0
  unfolding u versioned heads
  other j o =
      put_out (8 * i + 4) l versioned (four p.guest) (sym four_of) room' j (⊎_elim (λ b. inr (omega arith)) (λ b. inl (omega arith)) o)
      ∙ put_out (8 * i + 2) k heads (two p.version) (sym two_of) room j (⊎_elim (λ b. inr (omega arith)) (λ b. inl (omega arith)) o)
      ∙ get_or-set_other (set t (8 * i) p.kind) (8 * i + 1) j p.slot 0 (λ e. ⊎_elim (λ b. omega arith) (λ b. omega arith) o)
      ∙ get_or-set_other t (8 * i) j p.kind 0 (λ e. ⊎_elim (λ b. omega arith) (λ b. omega arith) o)

  out : (j x : ℕ) → (j ≡ i → ⊥) → x < 8 → (8 * i + 8 ≤ 8 * j + x) ⊎ (8 * j + x < 8 * i)
  out j x n b = elim (dec_lt j i) [ yes y ↦ inr (omega arith) | no y ↦ inl (omega arith) ]

  there : (j : ℕ) → (j ≡ i → ⊥) → page_at u (8 * j) ≡ page_at t (8 * j)
  there j n = page_ext u t (8 * j) (8 * j) (λ x b. other (8 * j + x) (out j x n b))

  pub record_put : pages_of (put_mid (8 * i + 4) l (put_mid (8 * i + 2) k (set (set t (8 * i) p.kind) (8 * i + 1) p.slot) (two p.version)) (four p.guest)) ≡ put_page i p (pages_of t)
  unfolding pages_of u versioned heads
  record_put = λ x. record { bytes = long x; page = pages x }
    where
      pages : (λ (j : ℕ). page_at u (8 * j)) ≡ put i p (λ j. page_at t (8 * j))
      pages = fun_ext (λ j. by_test (eqb j i) (λ e. rw (e, eqb-true j i e) here) (λ e. rw e (there j (eqb-false j i e))))
