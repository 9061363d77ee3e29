-- Who holds a page, reckoned from the accepted calls, is what the table's kinds and slots say; no page is given while it is held; and no guest
-- page of a slot is claimed by two pages.
-- Assumes nothing.
use Prim.Native.Nat.{ℕ, ◌+◌, ◌-◌, ◌*◌, ◌%◌, ◌≤◌, ◌<◌}
use mathlib.Core.Path.{◌≡◌, refl, sym, ◌∙◌, ap}
use mathlib.Core.Bool.{Bool, true, false, cond, ◌&&◌, ◌||◌, true≢false}
use mathlib.Core.List.{List}
use native.Mathlib.Omega.{arith}
use lib.Dec.{ltb, eqb}
use borrow.Author.Tests.{le-leb, eq-eqb, ltb-true, ltb-false, lt-ltb, le-ltb}
use Rattle.sets.specs.Terms.{within}
use Rattle.sets.specs.Look.{any, lowest}
use Rattle.sets.proofs.Bools.{iff, and_off, and_left, and_right}
use Rattle.sets.proofs.Looks.{any_at, any_hit, lowest_true, lowest-any}
use Rattle.rules.specs.declared.Page.{Page}
use Rattle.rules.specs.declared.Call.{Call}
use Rattle.rules.specs.declared.Role.TheVariants.{Tvm, FreeBase, GuestBase, UnitType}
use Rattle.rules.specs.Page.{Table, page, guest_page, guest_word, is_large, is_given, is_mapped, claims, meant, is_meant, moved}
use Rattle.rules.specs.Ledger.{Ledger}
use Rattle.rules.specs.Calls.{names, arg, size, first_guest, index, free_spans}
use Rattle.rules.specs.Refusals.{refuses11, taken, mapped, any_guest}
use Rattle.rules.specs.Effects.{writes, written, mapping}
use Rattle.rules.specs.Step.{unopened}
use Rattle.history.specs.Demand3.{after, Held, nobody, holds, maps, is_held_by, is_given_at, gives, given, takes_back, holding, held, HoldersAgree, GivenUnheld, OneClaim}
use Rattle.rules.proofs.Accepted.{call, by_call, Passed, guest_ends, at_number}
use Rattle.history.proofs.Runs.{Keeps, EachKeeps, kept, accepted}
use Rattle.history.proofs.Spans.{in_range, is_of, free_below, free_counts, host_ordinary, at_guest, meant_is}
use Rattle.history.proofs.Records.{held_of, held_at, held_0, held_free, mapped-given, holder_is, mapped_in, claim, claims-held, held-claims, word-page}
use Rattle.history.proofs.Sizes.{Sizes, shut, was_shut, now_open}

-- ---- the agreement, over the fields that it reads
record Holding (H : ℕ → Held) (harts pages : ℕ) (page : ℕ → Page) : Type 0 where
  sizes : Sizes harts pages
  agree : (i : ℕ) → H i ≡ held_at pages page i
  single : (i j k g : ℕ) → H i ≡ maps k g → H j ≡ maps k g → i ≡ j

abbrev I : (ℕ → Held) → Ledger → Table → Type 0
I H l t = Holding H l.harts l.pages t.page

module _ (H : ℕ → Held) (l : Ledger) (t : Table) (s : I H l t) where
  -- records written where b says so: given to x; of nobody, as before; taken back
  give : (i : ℕ) (b : Bool) (x : Held) (q : Page) → (b ≡ true → i < l.pages) → (b ≡ true → x ≡ held_of q)
      → cond b x (H i) ≡ cond (ltb i l.pages) (held_of (cond b q (t.page i))) nobody
  give i true x q f g = rw (lt-ltb i l.pages (f refl)) (g refl)
  give i false x q f g = s.agree i

  still : (i : ℕ) (b : Bool) (q : Page) → (b ≡ true → held_of (t.page i) ≡ held_of q) → H i ≡ cond (ltb i l.pages) (held_of (cond b q (t.page i))) nobody
  still i true q f = s.agree i ∙ ap (λ x. cond (ltb i l.pages) x nobody) (f refl)
  still i false q f = s.agree i

  back : (i : ℕ) (b : Bool) (F : Held → Bool) → (i < l.pages → F (held_of (t.page i)) ≡ b)
      → cond (F (H i)) nobody (H i) ≡ cond (ltb i l.pages) (held_of (cond b (page 2 0 0 0) (t.page i))) nobody
  back i b F f = rw (s.agree i) (go (ltb i l.pages) refl)
    where
      gone : (c : Bool) → cond c nobody nobody ≡ nobody
      gone true = refl
      gone false = refl

      two : (b : Bool) → cond b nobody (held_of (t.page i)) ≡ held_of (cond b (page 2 0 0 0) (t.page i))
      two true = refl
      two false = refl

      go : (x : Bool) → ltb i l.pages ≡ x
          → cond (F (cond x (held_of (t.page i)) nobody)) nobody (cond x (held_of (t.page i)) nobody) ≡ cond x (held_of (cond b (page 2 0 0 0) (t.page i))) nobody
      go true e = ap (λ y. cond y nobody (held_of (t.page i))) (f (ltb-true i l.pages e)) ∙ two b
      go false e = gone (F nobody)

  -- no page is mapped anew
  carry : (G : ℕ → Held) → ((i k g : ℕ) → G i ≡ maps k g → H i ≡ maps k g) → (i j k g : ℕ) → G i ≡ maps k g → G j ≡ maps k g → i ≡ j
  carry G f i j k g d e = s.single i j k g (f i k g d) (f j k g e)

  not_new : (b : Bool) (v k g : ℕ) (x : Held) → cond b (holds v) x ≡ maps k g → x ≡ maps k g
  not_new true v k g x e = let z : ◌≡◌ {A = ℕ} 0 1 = cc in absurd (omega arith)
  not_new false v k g x e = e

  not_gone : (b : Bool) (k g : ℕ) (x : Held) → cond b nobody x ≡ maps k g → x ≡ maps k g
  not_gone true k g x e = let z : ◌≡◌ {A = ℕ} 0 1 = cc in absurd (omega arith)
  not_gone false k g x e = e

  -- measured and zero: the n pages from f on, at the guest pages from g on, of which none is mapped
  module _ (k f n g : ℕ) (below : g + n ≤ 1048576) (fresh : (x : ℕ) → within g n x ≡ true → any (λ i. claims k x (t.page i)) l.pages ≡ false) where
    abbrev G : ℕ → Held
    G i = cond (within f n i) (maps k (g + (i - f))) (H i)

    new_held : (i : ℕ) (big : Bool) → within f n i ≡ true → maps k (g + (i - f)) ≡ maps k (guest_word (g + (i - f)) big % 1048576)
    new_held i big w = let (j, u, v) = in_range f n i w in ap (maps k) (sym (word-page (g + (i - f)) big (omega arith)))

    -- an old page is not at one of the new guest pages
    old_new : (i j x y : ℕ) → within f n i ≡ true → maps k (g + (i - f)) ≡ maps x y → H j ≡ maps x y → ⊥
    old_new i j x y w d e = go (ltb j l.pages) refl (sym (s.agree j) ∙ e ∙ sym d)
      where
        go : (b : Bool) → ltb j l.pages ≡ b → cond b (held_of (t.page j)) nobody ≡ maps k (g + (i - f)) → ⊥
        go true b h =
            let (m, u, v) = in_range f n i w in
            let here : within g n (g + (i - f)) ≡ true = rw (le-leb g (g + (i - f)) (omega arith), lt-ltb (g + (i - f)) (g + n) (omega arith)) in
            let z = any_at (λ i. claims k _ (t.page i)) l.pages j (fresh (g + (i - f)) here) (ltb-true j l.pages b) in
            true≢false (sym (held-claims k (g + (i - f)) (t.page j) h) ∙ z)
        go false b h = let z : ◌≡◌ {A = ℕ} 0 1 = cc in omega arith

    map_single : (i j x y : ℕ) → G i ≡ maps x y → G j ≡ maps x y → i ≡ j
    map_single i j x y = go (within f n i) refl (within f n j) refl
      where
        go : (p : Bool) → within f n i ≡ p → (q : Bool) → within f n j ≡ q
            → cond p (maps k (g + (i - f))) (H i) ≡ maps x y → cond q (maps k (g + (j - f))) (H j) ≡ maps x y → i ≡ j
        go true u true v d e =
            let (m, mu, mv) = in_range f n i u in
            let (o, ou, ov) = in_range f n j v in
            let z : g + (i - f) ≡ g + (j - f) = cc in
            omega arith
        go true u false v d e = absurd (old_new i j x y u d e)
        go false u true v d e = absurd (old_new j i x y v e d)
        go false u false v d e = s.single i j x y d e

-- ---- each call
module _ (H : ℕ → Held) (l : Ledger) (t : Table) (c : Call) (s : I H l t) where
  -- pages that are taken as free are nobody's
  free_nobody : (d : Call) → Passed l t d → (i : ℕ) → is_of (free_spans d) i ≡ true → nobody ≡ held_of (t.page i)
  free_nobody d p i w = held_free l.global (t.page i) (free_counts l t d p i w)

  -- what the calls do to records and to the reckoning alike: they give those they take as free; they write some that stay as they were held; they
  -- take some back
  gives_to : (d : Call) → Passed l t d → (v : ℕ) (q : ℕ → Page) → ((i : ℕ) → holds v ≡ held_of (q i))
      → Holding (λ i. cond (is_of (free_spans d) i) (holds v) (H i)) l.harts l.pages (λ i. cond (is_of (free_spans d) i) (q i) (t.page i))
  gives_to d p v q f = record {
    sizes = s.sizes;
    agree = λ i. give H l t s i (is_of (free_spans d) i) (holds v) (q i) (free_below l t d p i) (λ w. f i);
    single = carry H l t s _ (λ i k g. not_new H l t s (is_of (free_spans d) i) v k g (H i));
  }

  leaves_held : (b : ℕ → Bool) (q : ℕ → Page) → ((i : ℕ) → b i ≡ true → held_of (t.page i) ≡ held_of (q i)) → Holding H l.harts l.pages (λ i. cond (b i) (q i) (t.page i))
  leaves_held b q f = record { sizes = s.sizes; agree = λ i. still H l t s i (b i) (q i) (f i); single = s.single }

  taken_back : (b : ℕ → Bool) (F : Held → Bool) → ((i : ℕ) → i < l.pages → F (held_of (t.page i)) ≡ b i)
      → Holding (λ i. cond (F (H i)) nobody (H i)) l.harts l.pages (λ i. cond (b i) (page 2 0 0 0) (t.page i))
  taken_back b F f = record { sizes = s.sizes; agree = λ i. back H l t s i (b i) F (f i); single = carry H l t s _ (λ i k g. not_gone H l t s (F (H i)) k g (H i)) }

  -- measured and zero: the guest range ends at 2^32, and none of it is mapped
  module _ (d : Call) (p : Passed l t d) (guest : names GuestBase d ≡ true) (typed : names UnitType d ≡ true) where
    in_guest : first_guest d + size d ≤ 1048576
    in_guest =
        let z : arg GuestBase d + 4096 * size d ≤ 4294967296
        = ltb-false 4294967296 (arg GuestBase d + 4096 * size d) (and_off (names GuestBase d) (ltb 4294967296 (arg GuestBase d + 4096 * size d)) (guest_ends l t d p) guest) in
        omega arith

    unmapped : (x : ℕ) → within (first_guest d) (size d) x ≡ true → any (λ i. claims (arg Tvm d) x (t.page i)) l.pages ≡ false
    unfolding refuses11 meant
    unmapped x w =
        sym (lowest-any (λ i. claims (arg Tvm d) x (t.page i)) l.pages) ∙ at_guest l t d (mapped l t d) x (and_off (names UnitType d) (any_guest l t d (mapped l t d)) p.p11 typed) w

    maps_anew : ((i : ℕ) → within (index (arg FreeBase d)) (size d) i ≡ true → i < l.pages)
        → Holding (λ i. cond (within (index (arg FreeBase d)) (size d) i) (maps (arg Tvm d) (first_guest d + (i - index (arg FreeBase d)))) (H i)) l.harts l.pages
        (λ i. cond (within (index (arg FreeBase d)) (size d) i) (mapping l t d i) (t.page i))
    maps_anew below =
        let k = arg Tvm d in
        let f = index (arg FreeBase d) in
        record {
          sizes = s.sizes;
          agree = λ i. give H l t s i (within f (size d) i) (maps k (first_guest d + (i - f))) (mapping l t d i) (below i)
              (new_held H l t s k f (size d) (first_guest d) in_guest unmapped i (eqb (arg UnitType d) 1));
          single = map_single H l t s k f (size d) (first_guest d) in_guest unmapped;
        }

  create_kind : (b : Bool) (k : ℕ) → holds k ≡ held_of (page (cond b 3 4) k 0 0)
  create_kind true k = refl
  create_kind false k = refl

  -- 17 and 18: a record that is meant stays at its guest page
  meant_stays : (n slot first count kind version : ℕ) → is_mapped (page kind slot version 0) ≡ true → (i : ℕ) → is_meant t n slot first count i ≡ true
      → held_of (t.page i) ≡ held_of (moved kind slot version (t.page i))
  meant_stays n slot first count kind version k i w =
      let m = meant_is t n slot first count i w in
      claims-held slot (guest_page (t.page i)) (t.page i) m.claimed ∙ rw (k, word-page (guest_page (t.page i)) (is_large (t.page i)) (omega arith))

  -- 19: where no guest page has two pages, the records meant are those given there
  meant-all : (slot first count i : ℕ) → i < l.pages
      → (is_mapped (t.page i) && (eqb (t.page i).slot slot && within first count (guest_page (t.page i)))) ≡ is_meant t l.pages slot first count i
  unfolding is_meant meant
  meant-all slot first count i b = iff _ _ to from
    where
      q : Page
      q = t.page i

      g : ℕ
      g = guest_page q

      low : ℕ
      low = lowest (λ j. claims slot g (t.page j)) l.pages

      of : (j : ℕ) → j < l.pages → claims slot g (t.page j) ≡ true → H j ≡ maps slot g
      of j b e = s.agree j ∙ rw (lt-ltb j l.pages b) (claims-held slot g (t.page j) e)

      to : (is_mapped q && (eqb q.slot slot && within first count g)) ≡ true → (ltb i l.pages && within first count g && eqb low i) ≡ true
      to e =
          let m = and_left (is_mapped q) (eqb q.slot slot && within first count g) e in
          let sw = and_right (is_mapped q) (eqb q.slot slot && within first count g) e in
          let here : claims slot g q ≡ true = rw (m, and_left (eqb q.slot slot) (within first count g) sw) (eq-eqb g g refl) in
          let u : low < l.pages = ltb-true low l.pages (lowest-any (λ j. claims slot g (t.page j)) l.pages ∙ any_hit (λ j. claims slot g (t.page j)) i l.pages b here) in
          let v = lowest_true (λ j. claims slot g (t.page j)) l.pages u in
          rw (lt-ltb i l.pages b, and_right (eqb q.slot slot) (within first count g) sw) (eq-eqb low i (s.single low i slot g (of low u v) (of i b here)))

      from : is_meant t l.pages slot first count i ≡ true → (is_mapped q && (eqb q.slot slot && within first count g)) ≡ true
      from e =
          let m = meant_is t l.pages slot first count i e in
          let k = claim slot g q m.claimed in
          rw (k.claim_mapped, m.here, eq-eqb q.slot slot k.slot_is)

  by33 : Keeps holding I H l t (call 33 c)
  unfolding at_number holding gives given takes_back
  by33 p = record { sizes = now_open l t c p; agree = λ i. none i ∙ clean (ltb i c.a1) (t.page i); single = s.single }
    where
      none : (i : ℕ) → H i ≡ nobody
      none i = s.agree i ∙ rw ((was_shut l t c p s.sizes).1, le-ltb i 0 (omega arith))

      clean : (b : Bool) (q : Page) → nobody ≡ cond b (held_of (cond b (page 0 0 0 0) q)) nobody
      clean true q = refl
      clean false q = refl

keep : EachKeeps holding I
unfolding at_number holding gives given takes_back
keep H l t c s = by_call _ (record {
  convert = λ p. leaves_held H l t c s (writes l t (call 1 c)) (written l t (call 1 c)) (λ i w. sym (held_0 (t.page i) (host_ordinary l t (call 1 c) p i w)));
  reclaim = λ p. leaves_held H l t c s (writes l t (call 2 c)) (written l t (call 2 c)) (λ i w. sym (free_nobody H l t c s (call 2 c) p i w));
  global-fence = λ p. s;
  local_fence = λ p. s;
  create = λ p. gives_to H l t c s (call 5 c) p (taken l) (written l t (call 5 c)) (λ i. create_kind H l t c s (within (index c.a0) 4 i) (taken l));
  finalize = λ p. s;
  destroy = λ p. taken_back H l t c s (writes l t (call 8 c)) (is_held_by c.a0) (λ i b. holder_is c.a0 (t.page i));
  region = λ p. s;
  pool = λ p. gives_to H l t c s (call 10 c) p c.a0 (written l t (call 10 c)) (λ i. refl);
  measured = λ p. maps_anew H l t c s (call 11 c) p refl refl (free_below l t (call 11 c) p);
  zeros = λ p. maps_anew H l t c s (call 12 c) p refl refl (free_below l t (call 12 c) p);
  vcpu = λ p. gives_to H l t c s (call 14 c) p c.a0 (written l t (call 14 c)) (λ i. refl);
  enter = λ p. s;
  tvm_fence = λ p. s;
  invalidate = λ p.
      let d = call 17 c in
      leaves_held H l t c s (writes l t d) (written l t d) (meant_stays H l t c s l.pages c.a0 (first_guest d) (size d) 8 (l.slot c.a0).fence.version refl);
  validate = λ p.
      let d = call 18 c in
      leaves_held H l t c s (writes l t d) (written l t d) (meant_stays H l t c s l.pages c.a0 (first_guest d) (size d) 7 0 refl);
  remove = λ p.
      let d = call 19 c in
      taken_back H l t c s (writes l t d) (is_given_at c.a0 (first_guest d) (size d))
      (λ i b. mapped_in c.a0 (first_guest d) (size d) (t.page i) ∙ meant-all H l t c s c.a0 (first_guest d) (size d) i b);
  leave = λ p. s;
  open_ledger = by33 H l t c s;
})

-- ---- the theorems
whole : (t : Table) (cs : List Call) → I (held t cs) (after t cs).ledger (after t cs).table
whole t cs = kept holding I keep (λ p. nobody) (unopened t) cs (record {
  sizes = shut refl refl;
  agree = λ i. rw (le-ltb i 0 (omega arith));
  single = λ i j k g d e. let z : ◌≡◌ {A = ℕ} 0 1 = cc in absurd (omega arith);
})

pub holders_agree : HoldersAgree
holders_agree t cs p k = ap (is_held_by k) ((whole t cs).agree p) ∙ go (ltb p (after t cs).ledger.pages)
  where
    q : Page
    q = (after t cs).table.page p

    go : (b : Bool) → is_held_by k (cond b (held_of q) nobody) ≡ (b && (is_given q && eqb q.slot k))
    go true = holder_is k q
    go false = refl

pub given_unheld : GivenUnheld
unfolding gives
given_unheld t cs c v p a g =
    let d = accepted (after t cs) c v a in
    let n = c.number in
    let l = (after t cs).ledger in
    let u = (after t cs).table in
    let w = and_right (eqb n 5 || eqb n 10 || eqb n 11 || eqb n 12 || eqb n 14) (is_of (free_spans c) p) g in
    (whole t cs).agree p ∙ rw (lt-ltb p l.pages (free_below l u c d.passes p w)) (sym (held_free l.global (u.page p) (free_counts l u c d.passes p w)))

pub one_claim : OneClaim
one_claim t cs p q k g b d x y = (whole t cs).single p q k g (of p b x) (of q d y)
  where
    of : (i : ℕ) → i < (after t cs).ledger.pages → claims k g ((after t cs).table.page i) ≡ true → held t cs i ≡ maps k g
    of i b e = (whole t cs).agree i ∙ rw (lt-ltb i (after t cs).ledger.pages b) (claims-held k g ((after t cs).table.page i) e)

-- a page that is of no given kind is held by nobody
pub held_none : (t : Table) (cs : List Call) (p : ℕ) → is_given ((after t cs).table.page p) ≡ false → held t cs p ≡ nobody
held_none t cs p e = (whole t cs).agree p ∙ go (ltb p (after t cs).ledger.pages) (is_mapped ((after t cs).table.page p)) (mapped-given ((after t cs).table.page p))
  where
    q : Page
    q = (after t cs).table.page p

    go : (b m : Bool) → (m ≡ true → is_given q ≡ true) → cond b (cond m (maps q.slot (guest_page q)) (cond (is_given q) (holds q.slot) nobody)) nobody ≡ nobody
    go true true f = absurd (true≢false (sym (f refl) ∙ e))
    go true false f = rw e
    go false m f = refl
