-- No host translation leads to a page that counts as free or is held: each is to a page that is ordinary, or converting and not yet fenced by
-- that hart.
-- Assumes nothing.
use Prim.Native.Nat.{ℕ, ◌+◌, ◌≤◌, ◌<◌}
use mathlib.Core.Path.{◌≡◌, refl, sym, ◌∙◌, ap}
use mathlib.Core.Logic.{◌⊎◌, inl, inr}
use mathlib.Core.Bool.{Bool, true, false, cond, not, ◌&&◌, true≢false, false≢true}
use native.Mathlib.Omega.{arith}
use lib.Dec.{ltb, leb, eqb}
use borrow.Author.Tests.{eqb-true, eq-eqb, ne_eqb, lt-leb, lt-ltb, ltb-true, leb-true, not-true}
use Rattle.sets.proofs.Bools.{by_test, or_left, or_cases, and_left, and_right}
use Rattle.sets.proofs.Looks.{any_at}
use Rattle.rules.specs.declared.Page.{Page}
use Rattle.rules.specs.declared.Call.{Call}
use Rattle.rules.specs.Page.{Table, page, is_given, guest_page, is_meant}
use Rattle.rules.specs.Fence.{Harts, Tracker, someone, begin, strike}
use Rattle.rules.specs.Ledger.{Ledger, Hart, is_outside, others_of}
use Rattle.rules.specs.Calls.{free_spans, size, first_guest}
use Rattle.rules.specs.Effects.{table, ledger, value, writes, written}
use Rattle.rules.specs.Step.{unopened}
use Rattle.history.specs.Demand3.{after, Seats, nowhere, seats, counts_free, HostView, may_load, drops, host_turn, hosts, HostSafe}
use Rattle.rules.proofs.Accepted.{call, ByCall, by_call, Passed, at_number}
use Rattle.history.proofs.Runs.{EachKeeps, kept}
use Rattle.history.proofs.Spans.{is_of, free_counts, meant_is}
use Rattle.history.proofs.Records.{claim, mapped-given}
use Rattle.history.proofs.Sizes.{few, was_shut}
use Rattle.history.proofs.Seats.{Seated, SeatedIn, seated-first, seats_kept}
use Rattle.history.proofs.Holders.{held_none}

-- the page is the host's, or is converting and this hart has not yet fenced since
data Safe (j p harts pages : ℕ) (g : Tracker) (q : Page) : Type 0 where
  ordinary : j < harts → p < pages → q.kind ≡ 0 → Safe j p harts pages g q
  unfenced : j < harts → p < pages → q.kind ≡ 1 → q.version ≡ g.version → Safe j p harts pages g q
  awaited : j < harts → p < pages → q.kind ≡ 1 → q.version + 1 ≡ g.version → g.awaited j ≡ true → Safe j p harts pages g q

record Host (M : HostView) (harts pages : ℕ) (hart : ℕ → Hart) (g : Tracker) (page : ℕ → Page) : Type 0 where
  seated : Seated M.seats harts pages hart
  safe : (j p : ℕ) → M.may j p ≡ true → Safe j p harts pages g (page p)

abbrev I : HostView → Ledger → Table → Type 0
I M l t = Host M l.harts l.pages l.hart l.global t.page

-- such a page does not count as free, and is no given one
someone_there : (w : Harts) (j : ℕ) → j < 8 → w j ≡ true → someone w ≡ false → ⊥
someone_there w j b e f = true≢false (sym e ∙ any_at w 8 j f b)

not_free : {j p harts pages : ℕ} {g : Tracker} {q : Page} → harts ≤ 8 → Safe j p harts pages g q → counts_free g q ≡ true → ⊥
not_free {q = q} few (ordinary b c e) f = true≢false (sym f ∙ rw e)
not_free {g = g} {q = q} few (unfenced b c e v) f =
    true≢false (sym f ∙ rw (e, lt-leb (q.version + 2) g.version (omega arith), ne_eqb g.version (q.version + 1) (omega arith)))
not_free {j} {g = g} {q = q} few (awaited b c e v w) f =
    let z : not (someone g.awaited) ≡ true = sym (rw (e, lt-leb (q.version + 2) g.version (omega arith), eq-eqb g.version (q.version + 1) (sym v))) ∙ f in
    someone_there g.awaited j (omega arith) w (not-true _ z)

not-given : {j p harts pages : ℕ} {g : Tracker} {q : Page} → Safe j p harts pages g q → is_given q ≡ true → ⊥
not-given {q = q} x e = go x (leb-true 3 q.kind (and_left (leb 3 q.kind) (leb q.kind 8) e))
  where
    go : {j p harts pages : ℕ} {g : Tracker} → Safe j p harts pages g q → 3 ≤ q.kind → ⊥
    go (ordinary b c e) f = omega arith
    go (unfenced b c e v) f = omega arith
    go (awaited b c e v w) f = omega arith

module _ (M : HostView) (l : Ledger) (t : Table) (c : Call) (s : I M l t) where
  abbrev Old : ℕ → ℕ → Page → Type 0
  Old j p q = Safe j p l.harts l.pages l.global q

  -- the translations that are left of those before, after the call d
  abbrev Left : Call → Type 0
  Left d = (j p : ℕ) → M.may j p ≡ true → drops d j ≡ false → Safe j p (ledger l t d).harts (ledger l t d).pages (ledger l t d).global ((table l t d).page p)

  -- what is loaded is the host's: it is enough to look at what is kept
  one : (d : Call) → SeatedIn (seats d M.seats) (ledger l t d) → Left d → I (host_turn d (value l t d) (table l t d) M) (ledger l t d) (table l t d)
  unfolding host_turn
  one d k old = record { seated = k; safe = λ j p e. go j p (or_cases (M.may j p && not (drops d j)) (may_load x u j p) e) }
    where
      m : Ledger
      m = ledger l t d

      u : Table
      u = table l t d

      x : Seats
      x = seats d M.seats

      go : (j p : ℕ) → ((M.may j p && not (drops d j)) ≡ true) ⊎ (may_load x u j p ≡ true) → Safe j p m.harts m.pages m.global (u.page p)
      go j p (inl e) = old j p (and_left (M.may j p) (not (drops d j)) e) (not-true (drops d j) (and_right (M.may j p) (not (drops d j)) e))
      go j p (inr e) =
          let a = and_left (ltb j x.harts) (is_outside (x.place j)) (and_left (ltb j x.harts && is_outside (x.place j)) (ltb p x.pages && eqb (u.page p).kind 0) e) in
          let b = and_right (ltb j x.harts && is_outside (x.place j)) (ltb p x.pages && eqb (u.page p).kind 0) e in
          ordinary (ltb-true j m.harts (rw k.harts_are at a)) (ltb-true p m.pages (rw k.pages_are at (and_left (ltb p x.pages) (eqb (u.page p).kind 0) b)))
          (eqb-true (u.page p).kind 0 (and_right (ltb p x.pages) (eqb (u.page p).kind 0) b))

  -- a call that leaves the trackers, and writes records where b says so
  on_writes : (b : ℕ → Bool) (f : ℕ → Page) → ((j p : ℕ) → b p ≡ true → Old j p (t.page p) → Old j p (f p))
      → (j p : ℕ) → M.may j p ≡ true → Old j p (cond (b p) (f p) (t.page p))
  on_writes b f d j p e = go (b p) refl
    where
      go : (c : Bool) → b p ≡ c → Old j p (cond c (f p) (t.page p))
      go true q = d j p q (s.safe j p e)
      go false q = s.safe j p e

  -- the pages that are taken as free are none of these, nor are those of a TVM
  takes : (d : Call) → Passed l t d → (f : ℕ → Page) (j p : ℕ) → is_of (free_spans d) p ≡ true → Old j p (t.page p) → Old j p (f p)
  takes d q f j p w x = absurd (not_free (few s.seated.sizes) x (free_counts l t d q p w))

  means : (slot first count : ℕ) (f : ℕ → Page) (j p : ℕ) → is_meant t l.pages slot first count p ≡ true → Old j p (t.page p) → Old j p (f p)
  means slot first count f j p w x =
      absurd (not-given x (mapped-given (t.page p) (claim slot (guest_page (t.page p)) (t.page p) (meant_is t l.pages slot first count p w).claimed).claim_mapped))

  converts : {j p : ℕ} → Old j p (t.page p) → Old j p (page 1 0 l.global.version 0)
  converts (ordinary b c e) = unfenced b c refl refl
  converts (unfenced b c e v) = unfenced b c refl refl
  converts (awaited b c e v w) = unfenced b c refl refl

  fences : Passed l t (call 3 c) → {j p : ℕ} → eqb j c.hart ≡ false → Old j p (t.page p) → Safe j p l.harts l.pages (begin (others_of l c.hart) l.global) (t.page p)
  unfolding at_number
  fences q h (ordinary b c e) = ordinary b c e
  fences q {j} h (unfenced b d e v) = awaited b d e (ap (λ x. x + 1) v) (rw (lt-ltb j l.harts b, h))
  fences q {j} h (awaited b d e v w) = absurd (someone_there l.global.awaited j (let z = few s.seated.sizes in omega arith) w (or_left (someone l.global.awaited) false q.p8))

  strikes : {j p : ℕ} → eqb j c.hart ≡ false → Old j p (t.page p) → Safe j p l.harts l.pages (strike c.hart l.global) (t.page p)
  strikes h (ordinary b c e) = ordinary b c e
  strikes h (unfenced b c e v) = unfenced b c e v
  strikes h (awaited b c e v w) = awaited b c e v (rw h w)

  none_yet : Passed l t (call 33 c) → (j p : ℕ) → M.may j p ≡ true → ⊥
  none_yet q j p e = go (s.safe j p e)
    where
      go : Old j p (t.page p) → ⊥
      go (ordinary b d f) = let z = (was_shut l t c q s.seated.sizes).0 in omega arith
      go (unfenced b d f v) = let z = (was_shut l t c q s.seated.sizes).0 in omega arith
      go (awaited b d f v w) = let z = (was_shut l t c q s.seated.sizes).0 in omega arith

lefts : (M : HostView) (l : Ledger) (t : Table) (c : Call) (s : I M l t) → ByCall (λ n. Passed l t (call n c) → Left M l t c s (call n c))
unfolding at_number
lefts M l t c s = record {
  convert = λ q j p e h. on (call 1 c) (λ j p w x. converts M l t c s x) j p e;
  reclaim = λ q j p e h. on (call 2 c) (takes M l t c s (call 2 c) q _) j p e;
  global-fence = λ q j p e h. fences M l t c s q h (s.safe j p e);
  local_fence = λ q j p e h. strikes M l t c s h (s.safe j p e);
  create = λ q j p e h. on (call 5 c) (takes M l t c s (call 5 c) q _) j p e;
  finalize = λ q j p e h. s.safe j p e;
  destroy = λ q j p e h. on (call 8 c) (λ j p w x. absurd (not-given x (and_left (is_given (t.page p)) (eqb (t.page p).slot c.a0) w))) j p e;
  region = λ q j p e h. s.safe j p e;
  pool = λ q j p e h. on (call 10 c) (takes M l t c s (call 10 c) q _) j p e;
  measured = λ q j p e h. on (call 11 c) (takes M l t c s (call 11 c) q _) j p e;
  zeros = λ q j p e h. on (call 12 c) (takes M l t c s (call 12 c) q _) j p e;
  vcpu = λ q j p e h. on (call 14 c) (takes M l t c s (call 14 c) q _) j p e;
  enter = λ q j p e h. s.safe j p e;
  tvm_fence = λ q j p e h. s.safe j p e;
  invalidate = λ q j p e h. on (call 17 c) (means M l t c s c.a0 (first_guest (call 17 c)) (size (call 17 c)) _) j p e;
  validate = λ q j p e h. on (call 18 c) (means M l t c s c.a0 (first_guest (call 18 c)) (size (call 18 c)) _) j p e;
  remove = λ q j p e h. on (call 19 c) (means M l t c s c.a0 (first_guest (call 19 c)) (size (call 19 c)) _) j p e;
  leave = λ q j p e h. s.safe j p e;
  open_ledger = λ q j p e h. absurd (none_yet M l t c s q j p e);
}
  where
    on : (d : Call) → ((j p : ℕ) → writes l t d p ≡ true → Old M l t c s j p (t.page p) → Old M l t c s j p (written l t d p))
        → (j p : ℕ) → M.may j p ≡ true → Old M l t c s j p (cond (writes l t d p) (written l t d p) (t.page p))
    on d = on_writes M l t c s (writes l t d) (written l t d)

keep : EachKeeps host_turn I
keep M l t c s n b q = one M l t c s (call n c) (seats_kept M.seats l t c s.seated n b q) (by_call _ (lefts M l t c s) n b q)

pub host_safe : HostSafe
host_safe t cs j p e = (
  by_test (counts_free l.global (u.page p)) (λ f. absurd (not_free (few k.seated.sizes) (k.safe j p e) f)) (λ f. f),
  held_none t cs p (by_test (is_given (u.page p)) (λ f. absurd (not-given (k.safe j p e) f)) (λ f. f)),
)
  where
    l : Ledger
    l = (after t cs).ledger

    u : Table
    u = (after t cs).table

    k : I (hosts t cs) l u
    k = kept host_turn I keep (record { seats = nowhere 0 0; may = λ j p. false }) (unopened t) cs (record { seated = seated-first; safe = λ j p e. absurd (false≢true e) })
