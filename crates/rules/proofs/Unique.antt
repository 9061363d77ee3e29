-- The encoding loses nothing, and so the promise of a call leaves one answer, one list of words and one list of bytes; and one result of the code.
-- Assumes nothing.
use Prim.Native.Nat.{ℕ, zero, suc, ◌+◌, ◌-◌, ◌*◌, ◌/◌, ◌%◌, ◌^◌, ◌<◌}
use mathlib.Core.Path.{◌≡◌, refl, sym, ◌∙◌, ap, fun_ext}
use mathlib.Core.Bool.{Bool, true, false, cond}
use mathlib.Core.Option.{Option, none, some}
use mathlib.Core.List.{List, [], ◌∷◌}
use native.Mathlib.Omega.{arith}
use native.Mathlib.Decide.{dec_lt}
use native.Mathlib.Nat.{div-add-mod', div-div-eq-div-mul}
use lib.Dec.{ltb, eqb}
use lib.ListN.{length, get_or, replicate}
use lib.Seq.{ext_get_or}
use borrow.Author.Tests.{eqb-true, eqb-false, lt-ltb}
use Rattle.std.specs.Prelude.{Result, Ok, Err}
use Rattle.sets.proofs.Bools.{by_test}
use Rattle.sets.proofs.Laws.{ext, member_none}
use Rattle.rules.specs.Page.{Page, Table}
use Rattle.rules.specs.Fence.{Tracker}
use Rattle.rules.specs.Ledger.{Ledger, Place, inside, outside, start, bare, opened}
use Rattle.rules.specs.Step.{Answer, Accepted, Refused, State}
use Rattle.rules.specs.Answers.{Refusal, UnknownCall, NoTvm, WrongPhase, OutOfRange, Address, WrongKind, NotDone, StillAwaited, NoRoom, WrongRegion, AlreadyMapped, Occupied, VersionsSpent, LargeMappingCut, LeftOutside, number_of, answer_of}
use Rattle.rules.specs.Encoding.{read, part, cell, bits, tracker_of, upper, place_of, mark_of, view_of, page_at, pages_of, state_of}
use Rattle.rules.specs.Promises.{WordsKept, BytesKept, OnlyOne, AnswersKept, OneResult, RefusedWritesNothing, OthersKept, ZerosUnopened}
use Rattle.rules.proofs.Refused.{refused_changes_nothing, unwritten}

-- ---- one word
same_set : (s t : ℕ) → s < 256 → t < 256 → bits s ≡ bits t → s ≡ t
same_set s t a b e = ext 8 s t a b (λ k l. ap (λ (f : ℕ → Bool). f k) e)

-- a number is known by its quotient and its remainder
whole : (m x y : ℕ) → x / m ≡ y / m → x % m ≡ y % m → x ≡ y
whole m x y q r = sym (div-add-mod' x m) ∙ (rw (q, r) (div-add-mod' y m))

-- a fence's word is known by its tracker and what stands above it
same_fence : (x y : ℕ) → tracker_of x ≡ tracker_of y → upper x ≡ upper y → x ≡ y
same_fence x y e u = whole 65536 x y (whole 256 (x / 65536) (y / 65536) top awaited) (ap (λ (f : Tracker). f.version) e)
  where
    top : x / 65536 / 256 ≡ y / 65536 / 256
    top = div-div-eq-div-mul x 65536 256 ∙ u ∙ sym (div-div-eq-div-mul y 65536 256)

    awaited : x / 65536 % 256 ≡ y / 65536 % 256
    awaited = same_set (x / 65536 % 256) (y / 65536 % 256) (omega arith) (omega arith) (ap (λ (f : Tracker). f.awaited) e)

place_number : Place → ℕ
place_number outside = 0
place_number (inside k v) = 1 + (k * 8 + v)

place_back : (x : ℕ) → place_number (place_of x) ≡ x
unfolding place_number
place_back x = by_test (eqb x 0) (λ e. rw e (sym (eqb-true x 0 e))) (λ e. let z = eqb-false x 0 e in rw e (omega arith))

same_place : (x y : ℕ) → place_of x ≡ place_of y → x ≡ y
same_place x y e = sym (place_back x) ∙ ap place_number e ∙ place_back y

mark_number : Option ℕ → ℕ
mark_number none = 0
mark_number (some v) = v + 1

mark_back : (x : ℕ) → mark_number (mark_of x) ≡ x
unfolding mark_number
mark_back x = by_test (eqb x 0) (λ e. rw e (sym (eqb-true x 0 e))) (λ e. let z = eqb-false x 0 e in rw e (omega arith))

same_mark : (x y : ℕ) → mark_of x ≡ mark_of y → x ≡ y
same_mark x y e = sym (mark_back x) ∙ ap mark_number e ∙ mark_back y

-- ---- the words
module _ (w u : ℕ → ℕ) (sw : (i : ℕ) → w i < 2 ^ 32) (su : (i : ℕ) → u i < 2 ^ 32) (e : view_of w ≡ view_of u) where
  -- a word of a run, and of a row of a run
  in_part : (base n x : ℕ) → x < n → part w base n x ≡ part u base n x → w (base + x) ≡ u (base + x)
  in_part base n x l q = rw (lt-ltb x n l) at q

  in_cell : (base rows columns k i : ℕ) → i < columns → columns * k + i < rows * columns → cell w base rows columns k i ≡ cell u base rows columns k i
      → w (base + (columns * k + i)) ≡ u (base + (columns * k + i))
  in_cell base rows columns k i l h q = in_part base (rows * columns) (columns * k + i) h (rw (lt-ltb i columns l) at q)

  small : (v : ℕ → ℕ) → ((i : ℕ) → v i < 2 ^ 32) → (base n i : ℕ) → part v base n i < 2 ^ 32
  small v s base n i = go (ltb i n)
    where
      go : (b : Bool) → cond b (v (base + i)) 0 < 2 ^ 32
      go true = s (base + i)
      go false = omega arith

  global-word : w 0 ≡ u 0
  unfolding view_of
  global-word = same_fence (w 0) (u 0) (ap (λ (l : Ledger). l.global) e) (ap (λ (l : Ledger). l.harts) e)

  pages-word : w 1 ≡ u 1
  unfolding view_of
  pages-word = ap (λ (l : Ledger). l.pages) e

  fence-word : (k : ℕ) → k < 16 → w (2 + k) ≡ u (2 + k)
  unfolding view_of
  fence-word k l =
      in_part 2 16 k l
      (same_fence (part w 2 16 k) (part u 2 16 k) (ap (λ (l : Ledger). (l.slot k).fence) e)
      (same_set (upper (part w 2 16 k)) (upper (part u 2 16 k)) (omega (arith, small w sw 2 16 k)) (omega (arith, small u su 2 16 k)) (ap (λ (l : Ledger). (l.slot k).made) e)))

  phase-word : (k : ℕ) → k < 16 → w (18 + k) ≡ u (18 + k)
  unfolding view_of
  phase-word k l = in_part 18 16 k l (ap (λ (l : Ledger). (l.slot k).phase) e)

  first_word : (k i : ℕ) → k < 16 → i < 8 → w (34 + (8 * k + i)) ≡ u (34 + (8 * k + i))
  unfolding view_of
  first_word k i lk li = in_cell 34 16 8 k i li (omega arith) (ap (λ (l : Ledger). ((l.slot k).region i).first) e)

  length-word : (k i : ℕ) → k < 16 → i < 8 → w (162 + (8 * k + i)) ≡ u (162 + (8 * k + i))
  unfolding view_of
  length-word k i lk li = in_cell 162 16 8 k i li (omega arith) (ap (λ (l : Ledger). ((l.slot k).region i).pages) e)

  place-word : (j : ℕ) → j < 8 → w (290 + j) ≡ u (290 + j)
  unfolding view_of
  place-word j l = in_part 290 8 j l (same_place (part w 290 8 j) (part u 290 8 j) (ap (λ (l : Ledger). (l.hart j).place) e))

  mark-word : (j k : ℕ) → j < 8 → k < 16 → w (298 + (16 * j + k)) ≡ u (298 + (16 * j + k))
  unfolding view_of
  mark-word j k lj lk =
      in_cell 298 8 16 j k lk (omega arith) (same_mark (cell w 298 8 16 j k) (cell u 298 8 16 j k) (ap (λ (l : Ledger). (l.hart j).mark k) e))

  -- every word below 426 is one of these
  at_word : (i : ℕ) → i < 426 → w i ≡ u i
  at_word zero l = global-word
  at_word (suc zero) l = pages-word
  at_word (suc (suc i)) l =
      elim (dec_lt i 16) [
        | yes h ↦ at (2 + i) (omega arith) (fence-word i h)
        | no f ↦
            elim (dec_lt i 32) [
              | yes h ↦ at (18 + (i - 16)) (omega arith) (phase-word (i - 16) (omega arith))
              | no g ↦
                  elim (dec_lt i 160) [
                    | yes h ↦ at (34 + (8 * ((i - 32) / 8) + (i - 32) % 8)) (omega arith) (first_word ((i - 32) / 8) ((i - 32) % 8) (omega arith) (omega arith))
                    | no m ↦
                        elim (dec_lt i 288) [
                          | yes h ↦ at (162 + (8 * ((i - 160) / 8) + (i - 160) % 8)) (omega arith) (length-word ((i - 160) / 8) ((i - 160) % 8) (omega arith) (omega arith))
                          | no n ↦
                              elim (dec_lt i 296) [
                                | yes h ↦ at (290 + (i - 288)) (omega arith) (place-word (i - 288) (omega arith))
                                | no o ↦
                                    at (298 + (16 * ((i - 296) / 16) + (i - 296) % 16)) (omega arith)
                                    (mark-word ((i - 296) / 16) ((i - 296) % 16) (omega arith) (omega arith))
                              ]
                        ]
                  ]
            ]
      ]
    where
      at : (x : ℕ) → suc (suc i) ≡ x → w x ≡ u x → w (suc (suc i)) ≡ u (suc (suc i))
      at x q r = rw q r

pub words_kept : WordsKept
words_kept a b na nb e =
    ext_get_or 0 a b (na.size ∙ sym nb.size) (λ i l. at_word (read a) (read b) na.small nb.small e i (omega (arith, na.size)))

-- ---- the bytes
-- a number of two bytes is known by them, and so is one of four
two : {a b c d : ℕ} → a < 256 → c < 256 → a + 256 * b ≡ c + 256 * d → (a ≡ c) × (b ≡ d)
two ha hc q = (omega arith, omega arith)

four : {a b c d a' b' c' d' : ℕ} → a < 256 → a' < 256 → b < 256 → b' < 256 → c < 256 → c' < 256
    → a + 256 * b + 65536 * c + 16777216 * d ≡ a' + 256 * b' + 65536 * c' + 16777216 * d' → (a ≡ a') × (b ≡ b') × (c ≡ c') × (d ≡ d')
four {a} {b} {c} {d} {a'} {b'} {c'} {d'} ha ha' hb hb' hc hc' q =
    let x : a + 256 * (b + 256 * (c + 256 * d)) ≡ a' + 256 * (b' + 256 * (c' + 256 * d')) = omega arith in
    let y = two {b = b + 256 * (c + 256 * d)} {d = b' + 256 * (c' + 256 * d')} ha ha' x in
    let z = two {b = c + 256 * d} {d = c' + 256 * d'} hb hb' y.1 in
    let w = two {b = d} {d = d'} hc hc' z.1 in
    (y.0, z.0, w.0, w.1)

module _ (t u : List ℕ) (small-t : (i : ℕ) → get_or t i 0 < 256) (small-u : (i : ℕ) → get_or u i 0 < 256) where
  module _ (k : ℕ) (e : page_at t (8 * k) ≡ page_at u (8 * k)) where
    version-bytes : (get_or t (8 * k + 2) 0 ≡ get_or u (8 * k + 2) 0) × (get_or t (8 * k + 3) 0 ≡ get_or u (8 * k + 3) 0)
    version-bytes = two (small-t (8 * k + 2)) (small-u (8 * k + 2)) (ap (λ (p : Page). p.version) e)

    guest_bytes : (get_or t (8 * k + 4) 0 ≡ get_or u (8 * k + 4) 0) × (get_or t (8 * k + 5) 0 ≡ get_or u (8 * k + 5) 0)
        × (get_or t (8 * k + 6) 0 ≡ get_or u (8 * k + 6) 0) × (get_or t (8 * k + 7) 0 ≡ get_or u (8 * k + 7) 0)
    guest_bytes = four (small-t (8 * k + 4)) (small-u (8 * k + 4)) (small-t (8 * k + 5)) (small-u (8 * k + 5)) (small-t (8 * k + 6)) (small-u (8 * k + 6)) (ap (λ (p : Page). p.guest) e)

    in_page : (x : ℕ) → x < 8 → get_or t (8 * k + x) 0 ≡ get_or u (8 * k + x) 0
    in_page zero l = let q : 8 * k + 0 ≡ 8 * k = omega arith in rw q (ap (λ (p : Page). p.kind) e)
    in_page (suc zero) l = ap (λ (p : Page). p.slot) e
    in_page (suc (suc zero)) l = version-bytes.0
    in_page (suc (suc (suc zero))) l = version-bytes.1
    in_page (suc (suc (suc (suc zero)))) l = guest_bytes.0
    in_page (suc (suc (suc (suc (suc zero))))) l = guest_bytes.1
    in_page (suc (suc (suc (suc (suc (suc zero)))))) l = guest_bytes.2
    in_page (suc (suc (suc (suc (suc (suc (suc zero))))))) l = guest_bytes.3
    in_page (suc (suc (suc (suc (suc (suc (suc (suc y)))))))) l = absurd (omega arith)

  every_byte : pages_of t ≡ pages_of u → t ≡ u
  unfolding pages_of
  every_byte e =
      ext_get_or 0 t u (ap (λ (x : Table). x.bytes) e)
      (λ i l. let q : i ≡ 8 * (i / 8) + i % 8 = omega arith in rw q (in_page (i / 8) (ap (λ (x : Table). x.page (i / 8)) e) (i % 8) (omega arith)))

pub bytes_kept : BytesKept
bytes_kept m n a b na nb e = every_byte a b na.small nb.small e

-- ---- a call
pub only_one : OnlyOne
only_one ws b c x y ws₁ ws₂ b₁ b₂ p q =
    let e : state_of ws₁ b₁ ≡ state_of ws₂ b₂ = p.state ∙ sym q.state in (
      p.answer ∙ sym q.answer,
      words_kept ws₁ ws₂ p.words q.words (ap (λ (s : State). s.ledger) e),
      bytes_kept (length b) (length b) b₁ b₂ p.bytes q.bytes (ap (λ (s : State). s.table) e),
    )

-- ---- a result of the code, back from the answer that it stands for
refusal_of : ℕ → Refusal
refusal_of n = get_or (UnknownCall ∷ UnknownCall ∷ NoTvm ∷ WrongPhase ∷ OutOfRange ∷ Address ∷ WrongKind ∷ NotDone ∷ StillAwaited ∷ NoRoom ∷ WrongRegion ∷ AlreadyMapped ∷ Occupied ∷ VersionsSpent ∷ LargeMappingCut ∷ LeftOutside ∷ []) n UnknownCall

refusal_back : (r : Refusal) → refusal_of (number_of r) ≡ r
unfolding refusal_of
refusal_back UnknownCall = refl
refusal_back NoTvm = refl
refusal_back WrongPhase = refl
refusal_back OutOfRange = refl
refusal_back Address = refl
refusal_back WrongKind = refl
refusal_back NotDone = refl
refusal_back StillAwaited = refl
refusal_back NoRoom = refl
refusal_back WrongRegion = refl
refusal_back AlreadyMapped = refl
refusal_back Occupied = refl
refusal_back VersionsSpent = refl
refusal_back LargeMappingCut = refl
refusal_back LeftOutside = refl

result_of : Answer → Result ℕ Refusal
result_of (Accepted v) = Ok v
result_of (Refused n) = Err (refusal_of n)

result_back : (x : Result ℕ Refusal) → result_of (answer_of x) ≡ x
unfolding result_of
result_back (Ok v) = refl
result_back (Err r) = ap (λ (s : Refusal). Err s) (refusal_back r)

pub answers_kept : AnswersKept
answers_kept x y e = sym (result_back x) ∙ ap result_of e ∙ result_back y

pub one_result : OneResult
one_result ws b c x y ws₁ ws₂ b₁ b₂ p q =
    let (a, w, t) = only_one ws b c (answer_of x) (answer_of y) ws₁ ws₂ b₁ b₂ p q in
    (answers_kept x y a, w, t)

pub refused_writes_nothing : RefusedWritesNothing
refused_writes_nothing ws b c n ws' b' nw nb p =
    let e : state_of ws' b' ≡ state_of ws b = p.state ∙ refused_changes_nothing (state_of ws b) c n (sym p.answer) in (
      words_kept ws' ws p.words nw (ap (λ (s : State). s.ledger) e),
      bytes_kept (length b) (length b) b' b p.bytes nb (ap (λ (s : State). s.table) e),
    )

pub others_kept : OthersKept
unfolding pages_of
others_kept ws b c v ws' b' nb p i h x l = in_page b' b p.bytes.small nb.small i (ap (λ (s : State). s.table.page i) p.state ∙ unwritten (state_of ws b) c v i (sym p.answer) h) x l

-- ---- words that are all 0
zeros : ℕ → ℕ
zeros i = 0

zeros-read : (n : ℕ) → read (replicate n 0) ≡ zeros
unfolding zeros
zeros-read n = fun_ext (λ i. go n i)
  where
    go : (n i : ℕ) → get_or {A = ℕ} (replicate n 0) i 0 ≡ 0
    go zero i = refl
    go (suc n) zero = refl
    go (suc n) (suc i) = go n i

either : (b : Bool) (x : ℕ) → cond b x x ≡ x
either true x = refl
either false x = refl

pub zeros-unopened : ZerosUnopened
unfolding view_of zeros
zeros-unopened = ap view_of (zeros-read 426) ∙ blank
  where
    empty : bits 0 ≡ (λ j. false)
    empty = fun_ext member_none

    part0 : (base n i : ℕ) → part zeros base n i ≡ 0
    part0 base n i = either (ltb i n) 0

    cell0 : (base rows columns k i : ℕ) → cell zeros base rows columns k i ≡ 0
    cell0 base rows columns k i = ap (λ (x : ℕ). cond (ltb i columns) x 0) (part0 base (rows * columns) (columns * k + i)) ∙ either (ltb i columns) 0

    fence0 : tracker_of 0 ≡ start
    fence0 = λ x. record { version = 0; awaited = empty x }

    blank : view_of zeros ≡ opened 0 0
    blank = λ x. record {
      harts = 0;
      pages = 0;
      global = fence0 x;
      slot = fun_ext slots x;
      hart = fun_ext harts x;
    }
      where
        slots : (k : ℕ) → (view_of zeros).slot k ≡ bare 0 start
        slots k = λ x. record {
          phase = part0 18 16 k x;
          fence = (ap tracker_of (part0 2 16 k) ∙ fence0) x;
          made = (ap (λ (y : ℕ). bits (upper y)) (part0 2 16 k) ∙ empty) x;
          region = λ i. record { first = cell0 34 16 8 k i x; pages = cell0 162 16 8 k i x };
        }

        harts : (j : ℕ) → (view_of zeros).hart j ≡ record { place = outside; mark = λ k. none }
        harts j = λ x. record { place = ap place_of (part0 290 8 j) x; mark = λ k. ap mark_of (cell0 298 8 16 j k) x }
