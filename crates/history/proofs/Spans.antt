-- The pages that an accepted call names: those it takes as free count as free and are pages of the ledger, those it converts are the host's;
-- and the records that 17 to 19 mean.
-- Assumes nothing.
use Prim.Native.Nat.{ℕ, ◌+◌, ◌-◌, ◌≤◌, ◌<◌}
use mathlib.Core.Path.{◌≡◌, refl, sym, ◌∙◌, ap}
use mathlib.Core.Logic.{◌⊎◌, inl, inr}
use mathlib.Core.Bool.{Bool, true, false, cond, not, ◌&&◌, ◌||◌, true≢false, false≢true, or-true}
use mathlib.Core.List.{List, [], ◌∷◌, map}
use native.Mathlib.Omega.{arith}
use lib.Dec.{ltb, leb, eqb}
use borrow.Author.Tests.{ltb-true, leb-true, lt-ltb, le-leb, eqb-true, not-false}
use Rattle.sets.specs.Terms.{one_of, one_from, any_in, within, put}
use Rattle.sets.specs.Look.{any, lowest}
use Rattle.sets.proofs.Bools.{or_left, or_right, or_cases, or_false, or_assoc, and_left, and_right}
use Rattle.sets.proofs.Looks.{any_at, lowest_true}
use Rattle.sets.proofs.OneOf.{one_off}
use Rattle.rules.specs.declared.Page.{Page}
use Rattle.rules.specs.declared.Call.{Call}
use Rattle.rules.specs.Page.{Table, is_free, guest_page, claims, meant, is_meant}
use Rattle.rules.specs.Fence.{done}
use Rattle.rules.specs.Ledger.{Ledger}
use Rattle.rules.specs.Calls.{Span, index, free_spans, host_spans, size, first_guest}
use Rattle.rules.specs.Refusals.{refuses5, refuses6, refuses7, misplaced, any_page, any_guest}
use Rattle.history.specs.Demand3.{counts_free}
use Rattle.rules.proofs.Accepted.{Passed}
use Rattle.rules.proofs.Bounds.{placed}

-- ---- one of a list
one_from_lem : (a : Bool) (bs : List Bool) → one_from a bs ≡ (a || one_of bs)
unfolding one_from one_of
one_from_lem a [] = sym (or_false a)
one_from_lem a (b ∷ bs) = one_from_lem (a || b) bs ∙ or_assoc a b (one_of bs) ∙ ap (λ (x : Bool). a || x) (sym (one_from_lem b bs))

one_head : (b : Bool) (bs : List Bool) → one_of (b ∷ bs) ≡ (b || one_of bs)
unfolding one_of
one_head b bs = one_from_lem b bs

-- an element that passes q, where none passes p and none r
find_one : {A : Type 0} (p r q : A → Bool) (xs : List A) → any_in p xs ≡ false → any_in r xs ≡ false → any_in q xs ≡ true
    → (x : A) × (p x ≡ false) × (r x ≡ false) × (q x ≡ true)
find_one p r q [] e f g = absurd (false≢true (unfold one_of in g))
find_one {A} p r q (x ∷ xs) e f g =
    let e' = sym (one_head (p x) (map p xs)) ∙ e in
    let f' = sym (one_head (r x) (map r xs)) ∙ f in
    go (or_cases (q x) (one_of (map q xs)) (sym (one_head (q x) (map q xs)) ∙ g)) (or_left (p x) (one_of (map p xs)) e') (or_left (r x) (one_of (map r xs)) f')
    (find_one p r q xs (or_right (p x) (one_of (map p xs)) e') (or_right (r x) (one_of (map r xs)) f'))
  where
    go : (q x ≡ true) ⊎ (one_of (map q xs) ≡ true) → p x ≡ false → r x ≡ false
        → (one_of (map q xs) ≡ true → (y : A) × (p y ≡ false) × (r y ≡ false) × (q y ≡ true)) → (y : A) × (p y ≡ false) × (r y ≡ false) × (q y ≡ true)
    go (inl h) u v w = (x, u, v, h)
    go (inr h) u v w = w h

-- an element that passes p, and a number that passes both q of that element and r
pub find-number : {A : Type 0} (p : A → Bool) (q : A → ℕ → Bool) (r : ℕ → Bool) → ((x : A) → p x ≡ true → (i : ℕ) × (q x i ≡ true) × (r i ≡ true))
    → (xs : List A) → any_in p xs ≡ true → (i : ℕ) × (any_in (λ x. q x i) xs ≡ true) × (r i ≡ true)
find-number p q r f [] e = absurd (false≢true (unfold one_of in e))
find-number {A} p q r f (x ∷ xs) e = go (or_cases (p x) (one_of (map p xs)) (sym (one_head (p x) (map p xs)) ∙ e)) (find-number p q r f xs)
  where
    go : (p x ≡ true) ⊎ (one_of (map p xs) ≡ true) → (any_in p xs ≡ true → (i : ℕ) × (any_in (λ y. q y i) xs ≡ true) × (r i ≡ true))
        → (i : ℕ) × (any_in (λ y. q y i) (x ∷ xs) ≡ true) × (r i ≡ true)
    go (inl h) g = let (i, u, v) = f x h in (i, one_head (q x i) (map (λ y. q y i) xs) ∙ rw u, v)
    go (inr h) g = let (i, u, v) = g h in (i, one_head (q x i) (map (λ y. q y i) xs) ∙ rw u (or-true (q x i)), v)

-- ---- a page of a span
pub to_range : (first n j : ℕ) → j < n → within first n (first + j) ≡ true
to_range first n j e = rw (le-leb first (first + j) (omega arith)) (lt-ltb (first + j) (first + n) (omega arith))

pub in_range : (first n i : ℕ) → within first n i ≡ true → (j : ℕ) × (j < n) × (i ≡ first + j)
in_range first n i e =
    let u : first ≤ i = leb-true first i (and_left (leb first i) (ltb i (first + n)) e) in
    let v : i < first + n = ltb-true i (first + n) (and_right (leb first i) (ltb i (first + n)) e) in
    (i - first, omega arith, omega arith)

on_span : (p : Page → Bool) (page : ℕ → Page) (first n i : ℕ) → any (λ j. p (page (first + j))) n ≡ false → within first n i ≡ true → p (page i) ≡ false
on_span p page first n i e w =
    let (j, u, v) = in_range first n i w in
    rw v (any_at (λ j. p (page (first + j))) n j e u)

-- the two refusals on a free page, 6 and 7, leave one that counts as free
counts : (one two d : Bool) → not (one || two) ≡ false → (one && not d) ≡ false → (two || one && d) ≡ true
counts true true d e f = refl
counts true false true e f = refl
counts true false false e f = absurd (true≢false f)
counts false true d e f = refl
counts false false d e f = absurd (true≢false e)

-- record i is one of the pages of the spans
abbrev pub is_of : List Span → ℕ → Bool
is_of spans i = any_in (λ s. within (index s.base) s.pages i) spans

module _ (l : Ledger) (t : Table) (c : Call) where
  below : (s : Span) (i : ℕ) → misplaced l.pages s ≡ false → within (index s.base) s.pages i ≡ true → i < l.pages
  below s i e w =
      let (j, u, v) = in_range (index s.base) s.pages i w in
      let x = (placed l.pages s e).inside in
      omega arith

  pub free_below : Passed l t c → (i : ℕ) → is_of (free_spans c) i ≡ true → i < l.pages
  unfolding refuses5
  free_below p i w =
      let (s, x, y, z) = find_one (misplaced l.pages) (misplaced l.pages) (λ s. within (index s.base) s.pages i) (free_spans c) (one_off _ p.p5 1) (one_off _ p.p5 1) w in
      below s i x z

  pub neither_free : refuses6 l t c ≡ false → refuses7 l t c ≡ false → (i : ℕ) → is_of (free_spans c) i ≡ true → counts_free l.global (t.page i) ≡ true
  unfolding refuses6 refuses7
  neither_free p6 p7 i w =
      let wanted : Page → Bool = λ q. not (is_free q) in
      let waits : Page → Bool = λ q. eqb q.kind 1 && not (done l.global q.version) in
      let (s, x, y, z) = find_one (any_page l t c wanted) (any_page l t c waits) (λ s. within (index s.base) s.pages i) (free_spans c) (one_off _ p6 1) (or_left _ _ p7) w in
      counts (eqb (t.page i).kind 1) (eqb (t.page i).kind 2) (done l.global (t.page i).version)
      (on_span wanted t.page (index s.base) s.pages i x z) (on_span waits t.page (index s.base) s.pages i y z)

  pub free_counts : Passed l t c → (i : ℕ) → is_of (free_spans c) i ≡ true → counts_free l.global (t.page i) ≡ true
  free_counts p = neither_free p.p6 p.p7

  pub host_below : Passed l t c → (i : ℕ) → is_of (host_spans c) i ≡ true → i < l.pages
  unfolding refuses5
  host_below p i w =
      let (s, x, y, z) = find_one (misplaced l.pages) (misplaced l.pages) (λ s. within (index s.base) s.pages i) (host_spans c) (one_off _ p.p5 0) (one_off _ p.p5 0) w in
      below s i x z

  pub host_ordinary : Passed l t c → (i : ℕ) → is_of (host_spans c) i ≡ true → (t.page i).kind ≡ 0
  unfolding refuses6
  host_ordinary p i w =
      let other : Page → Bool = λ q. not (eqb q.kind 0) in
      let (s, x, y, z) = find_one (any_page l t c other) (any_page l t c other) (λ s. within (index s.base) s.pages i) (host_spans c) (one_off _ p.p6 0) (one_off _ p.p6 0) w in
      eqb-true (t.page i).kind 0 (not-false _ (on_span other t.page (index s.base) s.pages i x z))

  -- a guest page of the range
  pub at_guest : (p : ℕ → Bool) (g : ℕ) → any_guest l t c p ≡ false → within (first_guest c) (size c) g ≡ true → p g ≡ false
  at_guest p g e w =
      let (j, u, v) = in_range (first_guest c) (size c) g w in
      rw v (any_at (λ j. p (first_guest c + j)) (size c) j e u)

-- ---- the record that a guest page means
pub record Meant (t : Table) (n slot first count i : ℕ) : Type 0 where
  pub below : i < n
  pub here : within first count (guest_page (t.page i)) ≡ true
  pub is-meant : meant t n slot (guest_page (t.page i)) ≡ i
  pub claimed : claims slot (guest_page (t.page i)) (t.page i) ≡ true

pub meant_is : (t : Table) (n slot first count i : ℕ) → is_meant t n slot first count i ≡ true → Meant t n slot first count i
unfolding is_meant meant
meant_is t n slot first count i e =
    let g = guest_page (t.page i) in
    let ab = and_left (ltb i n && within first count g) (eqb (meant t n slot g) i) e in
    let b = ltb-true i n (and_left (ltb i n) (within first count g) ab) in
    let m : lowest (λ j. claims slot g (t.page j)) n ≡ i = eqb-true (meant t n slot g) i (and_right (ltb i n && within first count g) (eqb (meant t n slot g) i) e) in
    let q : ℕ → Bool = λ j. claims slot g (t.page j) in
    record { below = b; here = and_right (ltb i n) (within first count g) ab; is-meant = m; claimed = ap q (sym m) ∙ lowest_true q n (omega arith) }

-- a field that the value put has in common with what stood there is as before everywhere
pub put_field : {A B : Type 0} (g : A → B) (k : ℕ) (v : A) (f : ℕ → A) → g v ≡ g (f k) → (j : ℕ) → g (put k v f j) ≡ g (f j)
put_field g k v f e j = go (eqb j k) refl
  where
    go : (b : Bool) → eqb j k ≡ b → g (cond b v (f j)) ≡ g (f j)
    go true q = e ∙ ap (λ i. g (f i)) (sym (eqb-true j k q))
    go false q = refl
