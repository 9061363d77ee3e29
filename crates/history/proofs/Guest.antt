-- A hart inside a TVM holds no translation for it but to a page that is now mapped there: each translation is to a page that is present there, or
-- blocked there and this hart is not yet past its fence, or the hart is outside and flushes before it can use it.
-- Assumes nothing.
use Prim.Native.Nat.{ℕ, ◌+◌, ◌<◌}
use mathlib.Core.Path.{◌≡◌, refl, sym, subst, subst₂, ◌∙◌, ap}
use mathlib.Core.Logic.{◌⊎◌, inl, inr}
use mathlib.Core.Bool.{Bool, true, false, cond, not, ◌&&◌, true≢false, false≢true}
use mathlib.Core.Option.{some}
use native.Mathlib.Omega.{arith}
use lib.Dec.{ltb, eqb}
use borrow.Author.Tests.{eqb-true, eqb-false, eq-eqb, ne_eqb, lt-leb, ltb-true, ltb-false, not-true, not-false}
use Rattle.sets.specs.Terms.{put}
use Rattle.sets.proofs.Bools.{by_test, or_cases, and_left, and_right}
use Rattle.sets.proofs.Looks.{any_at}
use Rattle.rules.specs.declared.Page.{Page}
use Rattle.rules.specs.declared.Call.{Call}
use Rattle.rules.specs.Page.{Table, page, is_given, is_mapped, guest_page, is_large, claims, moved}
use Rattle.rules.specs.Fence.{Tracker, someone, done, begin}
use Rattle.rules.specs.Ledger.{Ledger, Slot, Hart, outside, is_in_slot, insiders_of, with_fence, flushes}
use Rattle.rules.specs.Calls.{free_spans, size, first_guest}
use Rattle.rules.specs.Refusals.{taken, the_one, mapped}
use Rattle.rules.specs.Effects.{table, ledger, value, writes, written, entered, destroyed}
use Rattle.rules.specs.Step.{unopened}
use Rattle.history.specs.Demand3.{after, Seats, nowhere, seats, GuestView, flushed, may_fill, guest_turn, guests, GuestSafe}
use Rattle.rules.proofs.Accepted.{call, ByCall, by_call, Passed, as_wanted, none_inside, at_number}
use Rattle.history.proofs.Runs.{EachKeeps, kept}
use Rattle.history.proofs.Spans.{is_of, free_counts, host_ordinary, at_guest, Meant, meant_is, put_field}
use Rattle.history.proofs.Records.{claim, word-page, free_unmapped}
use Rattle.history.proofs.Sizes.{few, was_shut}
use Rattle.history.proofs.Seats.{Seated, SeatedIn, seated-first, seats_kept}
use Rattle.history.proofs.Marks.{Marks, MarksIn, marks_first, marks_kept, newer, left_slot, left-slot, alive}

-- a translation of the hart x, which is number j, for the slot k with the fence f, at guest page g, to a page q
data Ok (j k g : ℕ) (x : Hart) (f : Tracker) (q : Page) : Type 0 where
  stale : is_in_slot k x.place ≡ false → flushes (x.mark k) f.version ≡ true → Ok j k g x f q
  present : q.kind ≡ 7 → claims k g q ≡ true → Ok j k g x f q
  unfenced : q.kind ≡ 8 → claims k g q ≡ true → q.version ≡ f.version → Ok j k g x f q
  awaited : q.kind ≡ 8 → claims k g q ≡ true → q.version + 1 ≡ f.version → f.awaited j ≡ true → Ok j k g x f q

record Guest (X : GuestView) (harts pages : ℕ) (slot : ℕ → Slot) (hart : ℕ → Hart) (page : ℕ → Page) : Type 0 where
  sits : Seated X.seats harts pages hart
  marked : Marks slot hart
  safe : (j k g p : ℕ) → X.may j k g p ≡ true → (j < harts) × (p < pages) × Ok j k g (hart j) (slot k).fence (page p)

abbrev I : GuestView → Ledger → Table → Type 0
I X l t = Guest X l.harts l.pages l.slot l.hart t.page

-- where the page is not mapped there, a translation to it is stale
if_mapped : {j k g : ℕ} {x : Hart} {f : Tracker} {q r : Page} → (claims k g q ≡ true → Ok j k g x f r) → Ok j k g x f q → Ok j k g x f r
if_mapped u (stale a b) = stale a b
if_mapped u (present a b) = u b
if_mapped u (unfenced a b c) = u b
if_mapped u (awaited a b c d) = u b

only_stale : {j k g : ℕ} {x : Hart} {f : Tracker} {q r : Page} → is_mapped q ≡ false → Ok j k g x f q → Ok j k g x f r
only_stale {k = k} {g = g} {q = q} e o = if_mapped (λ y. absurd (true≢false (sym (claim k g q y).claim_mapped ∙ e))) o

-- a version recorded now is not done, nor one of the last fence while a hart is awaited
not_yet : (f : Tracker) (r : ℕ) → r ≡ f.version → done f r ≡ true → ⊥
not_yet f r e d = true≢false (sym d ∙ rw (lt-leb (r + 2) f.version (omega arith), ne_eqb f.version (r + 1) (omega arith)))

not-all : (f : Tracker) (r j : ℕ) → j < 8 → r + 1 ≡ f.version → f.awaited j ≡ true → done f r ≡ true → ⊥
not-all f r j b e w d =
    let z : not (someone f.awaited) ≡ true = sym (rw (lt-leb (r + 2) f.version (omega arith), eq-eqb f.version (r + 1) (sym e))) ∙ d in
    true≢false (sym w ∙ any_at f.awaited 8 j (not-true _ z) b)

module _ (X : GuestView) (l : Ledger) (t : Table) (c : Call) (s : I X l t) where
  abbrev Old : ℕ → ℕ → ℕ → Page → Type 0
  Old j k g q = Ok j k g (l.hart j) (l.slot k).fence q

  -- the translations that are left of those before, after the call d
  abbrev Left : Call → Type 0
  Left d = (j k g p : ℕ) → X.may j k g p ≡ true → flushed d (value l t d) j k ≡ false
      → (j < (ledger l t d).harts) × (p < (ledger l t d).pages) × Ok j k g ((ledger l t d).hart j) ((ledger l t d).slot k).fence ((table l t d).page p)

  -- what is filled is present: it is enough to look at what is kept
  one : (d : Call) → SeatedIn (seats d X.seats) (ledger l t d) → MarksIn (ledger l t d) → Left d → I (guest_turn d (value l t d) (table l t d) X) (ledger l t d) (table l t d)
  unfolding guest_turn
  one d h b old = record { sits = h; marked = b; safe = λ j k g p e. go j k g p (or_cases (X.may j k g p && not (flushed d (value l t d) j k)) (may_fill x u j k g p) e) }
    where
      m : Ledger
      m = ledger l t d

      u : Table
      u = table l t d

      x : Seats
      x = seats d X.seats

      counted : (j k : ℕ) → is_in_slot k (m.hart j).place ≡ true → j < m.harts
      counted j k e = by_test (ltb j m.harts) (λ q. ltb-true j m.harts q) (λ q. absurd (false≢true (rw (h.none_past j (ltb-false j m.harts q)) at e)))

      go : (j k g p : ℕ) → ((X.may j k g p && not (flushed d (value l t d) j k)) ≡ true) ⊎ (may_fill x u j k g p ≡ true)
          → (j < m.harts) × (p < m.pages) × Ok j k g (m.hart j) (m.slot k).fence (u.page p)
      go j k g p (inl e) =
          let f = flushed d (value l t d) j k in
          old j k g p (and_left (X.may j k g p) (not f) e) (not-true f (and_right (X.may j k g p) (not f) e))
      go j k g p (inr e) =
          let here = eqb (u.page p).kind 7 && claims k g (u.page p) in
          let a = and_left (is_in_slot k (x.place j)) (ltb p x.pages && here) e in
          let y = and_right (is_in_slot k (x.place j)) (ltb p x.pages && here) e in
          let z = and_right (ltb p x.pages) here y in (
            counted j k (rw (h.places_are j) at a),
            ltb-true p m.pages (rw h.pages_are at (and_left (ltb p x.pages) here y)),
            present (eqb-true (u.page p).kind 7 (and_left (eqb (u.page p).kind 7) (claims k g (u.page p)) z)) (and_right (eqb (u.page p).kind 7) (claims k g (u.page p)) z),
          )

  -- of an old translation: its hart and page are still there, and what becomes of it
  still : (j k g p : ℕ) → X.may j k g p ≡ true → {A : Type 0} → (j < l.harts → Old j k g (t.page p) → A) → (j < l.harts) × (p < l.pages) × A
  still j k g p e f = let z = s.safe j k g p e in (z.0, z.1, f z.0 z.2)

  -- records written where b says so
  at_page : {j k g p : ℕ} (f : Tracker) (b : Bool) (q : Page) → (b ≡ true → Ok j k g (l.hart j) f (t.page p) → Ok j k g (l.hart j) f q) → Ok j k g (l.hart j) f (t.page p)
      → Ok j k g (l.hart j) f (cond b q (t.page p))
  at_page f true q d o = d refl o
  at_page f false q d o = o

  takes : (d : Call) → Passed l t d → {j k g p : ℕ} {f : Tracker} (r : Page) → is_of (free_spans d) p ≡ true → Ok j k g (l.hart j) f (t.page p) → Ok j k g (l.hart j) f r
  takes d q {p = p} r w x = only_stale (free_unmapped l.global (t.page p) (free_counts l t d q p w)) x

  -- a slot put anew with the fence that it had
  with-slot : (x : ℕ) (r : Slot) → r.fence ≡ (l.slot x).fence → (j k g : ℕ) (q : Page) → Old j k g q → Ok j k g (l.hart j) (put x r l.slot k).fence q
  with-slot x r e j k g q o = subst (λ (f : Tracker). Ok j k g (l.hart j) f q) (sym (put_field (λ (s : Slot). s.fence) x r l.slot e k)) o

  free_left : (d : Call) → Passed l t d → (j k g p : ℕ) → X.may j k g p ≡ true → (j < l.harts) × (p < l.pages) × Old j k g (cond (is_of (free_spans d) p) (written l t d p) (t.page p))
  free_left d q j k g p e = still j k g p e (λ b o. at_page (l.slot k).fence (is_of (free_spans d) p) (written l t d p) (takes d q (written l t d p)) o)

  by1 : Passed l t (call 1 c) → Left (call 1 c)
  unfolding at_number
  by1 q j k g p e f = still j k g p e (λ b o. at_page (l.slot k).fence (writes l t (call 1 c) p) (page 1 0 l.global.version 0)
      (λ w. only_stale (let z = host_ordinary l t (call 1 c) q p w in rw z)) o)

  -- enter: a translation that was stale is flushed, or is for another slot
  by15 : Left (call 15 c)
  unfolding at_number
  by15 j k g p e f = still j k g p e (λ b o. ok (eqb j c.hart) refl o f)
    where
      v : ℕ
      v = (l.slot c.a0).fence.version

      h : ℕ
      h = c.hart

      told : ℕ
      told = cond (flushes ((l.hart h).mark c.a0) v) 1 0

      new : Hart
      new = entered l t (call 15 c) (l.hart h)

      off : (b : Bool) → eqb j h ≡ true → eqb k c.a0 ≡ b → flushes ((l.hart j).mark k) (l.slot k).fence.version ≡ true → (eqb told 1 && b) ≡ false
          → (eqb c.a0 k ≡ false) × (flushes (cond b (some v) ((l.hart h).mark k)) (l.slot k).fence.version ≡ true)
      off true u w y e =
          let z : flushes ((l.hart h).mark c.a0) v ≡ true = subst₂ (λ i x. flushes ((l.hart i).mark x) (l.slot x).fence.version ≡ true) (eqb-true j h u) (eqb-true k c.a0 w) y in
          absurd (true≢false (sym (rw z) ∙ e))
      off false u w y e = (ne_eqb c.a0 k (λ z. eqb-false k c.a0 w (sym z)), subst (λ i. flushes ((l.hart i).mark k) (l.slot k).fence.version ≡ true) (eqb-true j h u) y)

      entering : eqb j h ≡ true → Old j k g (t.page p) → (eqb told 1 && eqb k c.a0) ≡ false → Ok j k g new (l.slot k).fence (t.page p)
      entering u (stale x y) e = let z = off (eqb k c.a0) u refl y e in stale z.0 z.1
      entering u (present x y) e = present x y
      entering u (unfenced x y z) e = unfenced x y z
      entering u (awaited x y z w) e = awaited x y z w

      ok : (b : Bool) → eqb j h ≡ b → Old j k g (t.page p) → (eqb told 1 && (b && eqb k c.a0)) ≡ false → Ok j k g (cond b new (l.hart j)) (l.slot k).fence (t.page p)
      ok true u o e = entering u o e
      ok false u o e = o

  -- leave: a translation that the fence awaited is stale now
  by32 : Passed l t (call 32 c) → Left (call 32 c)
  unfolding at_number
  by32 q j k g p e f = still j k g p e (λ b o. subst (λ (x : ℕ → Slot). Ok j k g (put h new l.hart j) (x k).fence (t.page p))
      (sym (left-slot l t c q)) (ok (is_in_slot k (l.hart h).place) (eqb j h) refl o))
    where
      h : ℕ
      h = c.hart

      new : Hart
      new = record { place = outside; mark = (l.hart h).mark }

      version : (b : Bool) → (left_slot l h k b).fence.version ≡ (l.slot k).fence.version
      version true = refl
      version false = refl

      aw : (b : Bool) → eqb j h ≡ false → (left_slot l h k b).fence.awaited j ≡ (l.slot k).fence.awaited j
      aw true v = rw v
      aw false v = refl

      gone : (b : Bool) → j ≡ h → Old j k g (t.page p) → Ok j k g new (left_slot l h k b).fence (t.page p)
      gone b v (stale x y) = stale refl (rw (version b, ← v) y)
      gone b v (present x y) = present x y
      gone b v (unfenced x y z) = unfenced x y (z ∙ sym (version b))
      gone b v (awaited x y z w) = stale refl (rw (version b, ← v) (s.marked.waits j k w).1)

      stays : (b : Bool) → eqb j h ≡ false → Old j k g (t.page p) → Ok j k g (l.hart j) (left_slot l h k b).fence (t.page p)
      stays b v (stale x y) = stale x (rw (version b) y)
      stays b v (present x y) = present x y
      stays b v (unfenced x y z) = unfenced x y (z ∙ sym (version b))
      stays b v (awaited x y z w) = awaited x y (z ∙ sym (version b)) (aw b v ∙ w)

      ok : (b d : Bool) → eqb j h ≡ d → Old j k g (t.page p) → Ok j k g (cond d new (l.hart j)) (left_slot l h k b).fence (t.page p)
      ok b true v o = gone b (eqb-true j h v) o
      ok b false v o = stays b v o

  -- TVM fence: a blocked page that was not fenced is awaited now, by the harts inside
  by16 : Passed l t (call 16 c) → Left (call 16 c)
  unfolding at_number
  by16 q j k g p e f = still j k g p e (λ b o. ok b (eqb k c.a0) refl o)
    where
      v : ℕ
      v = (l.slot c.a0).fence.version

      new : Slot
      new = with_fence (begin (insiders_of l c.a0) (l.slot c.a0).fence) (l.slot c.a0)

      moved_on : eqb k c.a0 ≡ true → (l.slot k).fence.version + 1 ≡ v + 1
      moved_on u = ap (λ i. (l.slot i).fence.version + 1) (eqb-true k c.a0 u)

      behind : eqb k c.a0 ≡ true → flushes ((l.hart j).mark k) (v + 1) ≡ true
      behind u = newer s.marked j k (v + 1) (let z = moved_on u in omega arith)

      split : eqb k c.a0 ≡ true → (t.page p).kind ≡ 8 → claims k g (t.page p) ≡ true → (t.page p).version ≡ (l.slot k).fence.version
          → (b : Bool) → is_in_slot k (l.hart j).place ≡ b → Ok j k g (l.hart j) new.fence (t.page p)
      split u x y z true w = awaited x y (let o = moved_on u in omega arith) (rw (← eqb-true k c.a0 u) w)
      split u x y z false w = stale w (behind u)

      fence : eqb k c.a0 ≡ true → j < l.harts → Old j k g (t.page p) → Ok j k g (l.hart j) new.fence (t.page p)
      fence u b (stale x y) = stale x (behind u)
      fence u b (present x y) = present x y
      fence u b (unfenced x y z) = split u x y z (is_in_slot k (l.hart j).place) refl
      fence u b (awaited x y z w) =
          absurd (true≢false (sym (rw (eqb-true k c.a0 u) at w) ∙ any_at (l.slot c.a0).fence.awaited 8 j q.p8 (let z = few s.sits.sizes in omega arith)))

      ok : j < l.harts → (b : Bool) → eqb k c.a0 ≡ b → Old j k g (t.page p) → Ok j k g (l.hart j) (cond b new (l.slot k)).fence (t.page p)
      ok h true u o = fence u h o
      ok h false u o = o

  -- 17 to 19: a record that is meant, moved, is still at its guest page
  abbrev Here : ℕ → ℕ → Type 0
  Here n p = Meant t l.pages c.a0 (first_guest (call n c)) (size (call n c)) p

  stays_there : (k g p kind slot version first count : ℕ) → is_mapped (page kind slot version 0) ≡ true → Meant t l.pages slot first count p → claims k g (t.page p) ≡ true
      → (k ≡ slot) × (claims k g (moved kind slot version (t.page p)) ≡ true)
  stays_there k g p kind slot version first count i m e =
      let a = claim k g (t.page p) e in
      let b = claim slot (guest_page (t.page p)) (t.page p) m.claimed in
      let z : k ≡ slot = sym a.slot_is ∙ b.slot_is in
      (z, rw (i, eq-eqb slot k (sym z), word-page (guest_page (t.page p)) (is_large (t.page p)) (omega arith)) (eq-eqb (guest_page (t.page p)) g a.guest_is))

  by17 : Left (call 17 c)
  unfolding at_number
  by17 j k g p e f = still j k g p e (λ b o. at_page (l.slot k).fence (writes l t d p) (moved 8 c.a0 v (t.page p))
      (λ w. if_mapped (blocks (meant_is t l.pages c.a0 (first_guest d) (size d) p w))) o)
    where
      d : Call
      d = call 17 c

      v : ℕ
      v = (l.slot c.a0).fence.version

      blocks : Here 17 p → claims k g (t.page p) ≡ true → Old j k g (moved 8 c.a0 v (t.page p))
      blocks m y = let (z, x) = stays_there k g p 8 c.a0 v (first_guest d) (size d) refl m y in unfenced refl x (ap (λ i. (l.slot i).fence.version) (sym z))

  by18 : Left (call 18 c)
  unfolding at_number
  by18 j k g p e f =
      let d = call 18 c in
      still j k g p e (λ b o. at_page (l.slot k).fence (writes l t d p) (moved 7 c.a0 0 (t.page p))
      (λ w. if_mapped (λ y. present refl (stays_there k g p 7 c.a0 0 (first_guest d) (size d) refl (meant_is t l.pages c.a0 (first_guest d) (size d) p w) y).1)) o)

  -- remove: the fence of a blocked page is done, so that nobody has it but harts that will flush
  by19 : Passed l t (call 19 c) → Left (call 19 c)
  unfolding at_number
  by19 q j k g p e f = still j k g p e (λ b o. at_page (l.slot k).fence (writes l t d p) (page 2 0 0 0)
      (λ w. go b (meant_is t l.pages c.a0 (first_guest d) (size d) p w)) o)
    where
      d : Call
      d = call 19 c

      here : ℕ
      here = guest_page (t.page p)

      is8 : Here 19 p → (t.page p).kind ≡ 8
      is8 m =
          let z : (mapped l t d here && eqb (t.page (the_one l t d here)).kind 8) ≡ true
          = not-false _ (at_guest l t d (λ g. not (mapped l t d g && eqb (t.page (the_one l t d g)).kind 8)) here (as_wanted l t d q) m.here) in
          rw m.is-meant at (eqb-true (t.page (the_one l t d here)).kind 8 (and_right (mapped l t d here) _ z))

      over : Here 19 p → done (l.slot c.a0).fence (t.page p).version ≡ true
      over m =
          let z : done (l.slot c.a0).fence (t.page (the_one l t d here)).version ≡ true
          = not-false _ (at_guest l t d (λ g. not (done (l.slot c.a0).fence (t.page (the_one l t d g)).version)) here q.p7 m.here) in
          rw m.is-meant at z

      done_there : Here 19 p → claims k g (t.page p) ≡ true → done (l.slot k).fence (t.page p).version ≡ true
      done_there m y = let (z, x) = stays_there k g p 8 c.a0 0 (first_guest d) (size d) refl m y in rw (← z) at (over m)

      go : j < l.harts → Here 19 p → Old j k g (t.page p) → Old j k g (page 2 0 0 0)
      go b m (stale x y) = stale x y
      go b m (present x y) = let z = is8 m in absurd (omega arith)
      go b m (unfenced x y z) = absurd (not_yet (l.slot k).fence (t.page p).version z (done_there m y))
      go b m (awaited x y z w) = absurd (not-all (l.slot k).fence (t.page p).version j (let o = few s.sits.sizes in omega arith) z w (done_there m y))

  -- destroy: nobody is inside, and no mark is of the version that comes
  by8 : Passed l t (call 8 c) → Left (call 8 c)
  unfolding at_number
  by8 q j k g p e f = still j k g p e (λ b o. ok b (eqb k c.a0) refl o)
    where
      new : Slot
      new = destroyed (l.slot c.a0)

      moved_on : eqb k c.a0 ≡ true → (l.slot k).fence.version < new.fence.version
      moved_on u =
          let y = alive l t c s.marked q.p2 in
          let z : (l.slot k).fence.version ≡ (l.slot c.a0).fence.version = ap (λ i. (l.slot i).fence.version) (eqb-true k c.a0 u) in
          omega arith

      theirs : Bool
      theirs = is_given (t.page p) && eqb (t.page p).slot c.a0

      not_other : eqb k c.a0 ≡ false → claims k g (t.page p) ≡ true → theirs ≡ true → ⊥
      not_other u y v = eqb-false k c.a0 u (sym (claim k g (t.page p) y).slot_is ∙ eqb-true (t.page p).slot c.a0 (and_right (is_given (t.page p)) (eqb (t.page p).slot c.a0) v))

      ok : j < l.harts → (b : Bool) → eqb k c.a0 ≡ b → Old j k g (t.page p) → Ok j k g (l.hart j) (cond b new (l.slot k)).fence (cond theirs (page 2 0 0 0) (t.page p))
      ok h true u o =
          stale (rw (eqb-true k c.a0 u) (any_at (insiders_of l c.a0) 8 j (none_inside l t (call 8 c) q) (let z = few s.sits.sizes in omega arith)))
          (newer s.marked j k new.fence.version (moved_on u))
      ok h false u o = at_page (l.slot k).fence theirs (page 2 0 0 0) (λ v. if_mapped (λ y. absurd (not_other u y v))) o

  none_yet : Passed l t (call 33 c) → Left (call 33 c)
  none_yet q j k g p e f = let z = (was_shut l t c q s.sits.sizes).0 in let y = (s.safe j k g p e).0 in absurd (omega arith)

lefts : (X : GuestView) (l : Ledger) (t : Table) (c : Call) (s : I X l t) → ByCall (λ n. Passed l t (call n c) → Left X l t c s (call n c))
unfolding at_number
lefts X l t c s = record {
  convert = by1 X l t c s;
  reclaim = λ q j k g p e f. free_left X l t c s (call 2 c) q j k g p e;
  global-fence = λ q j k g p e f. s.safe j k g p e;
  local_fence = λ q j k g p e f. s.safe j k g p e;
  create = λ q j k g p e f. let z = free_left X l t c s (call 5 c) q j k g p e in (z.0, z.1, with-slot X l t c s (taken l) _ refl j k g _ z.2);
  finalize = λ q j k g p e f. still X l t c s j k g p e (λ b o. with-slot X l t c s c.a0 _ refl j k g (t.page p) o);
  destroy = by8 X l t c s;
  region = λ q j k g p e f. still X l t c s j k g p e (λ b o. with-slot X l t c s c.a0 _ refl j k g (t.page p) o);
  pool = λ q j k g p e f. free_left X l t c s (call 10 c) q j k g p e;
  measured = λ q j k g p e f. free_left X l t c s (call 11 c) q j k g p e;
  zeros = λ q j k g p e f. free_left X l t c s (call 12 c) q j k g p e;
  vcpu = λ q j k g p e f. let z = free_left X l t c s (call 14 c) q j k g p e in (z.0, z.1, with-slot X l t c s c.a0 _ refl j k g _ z.2);
  enter = λ q. by15 X l t c s;
  tvm_fence = by16 X l t c s;
  invalidate = λ q. by17 X l t c s;
  validate = λ q. by18 X l t c s;
  remove = by19 X l t c s;
  leave = by32 X l t c s;
  open_ledger = none_yet X l t c s;
}

keep : EachKeeps guest_turn I
keep X l t c s n b q =
    one X l t c s (call n c) (seats_kept X.seats l t c s.sits n b q) (by_call _ (marks_kept l t c s.marked) n b q) (by_call _ (lefts X l t c s) n b q)

pub guest_safe : GuestSafe
guest_safe t cs j k g p e i = ((whole.safe j k g p e).1, go (whole.safe j k g p e).2)
  where
    l : Ledger
    l = (after t cs).ledger

    u : Table
    u = (after t cs).table

    whole : I (guests t cs) l u
    whole = kept guest_turn I keep (record { seats = nowhere 0 0; may = λ j k g p. false }) (unopened t) cs
        (record { sits = seated-first; marked = marks_first; safe = λ j k g p e. absurd (false≢true e) })

    go : Ok j k g (l.hart j) (l.slot k).fence (u.page p) → claims k g (u.page p) ≡ true
    go (stale x y) = absurd (true≢false (sym (rw (whole.sits.places_are j) at i) ∙ x))
    go (present x y) = y
    go (unfenced x y z) = y
    go (awaited x y z w) = y
