-- Where each hart is, reckoned from accepted enters and leaves, is what the ledger says; and no hart past the count is inside.
-- Assumes nothing.
use Prim.Native.Nat.{ℕ, ◌≤◌, ◌<◌}
use mathlib.Core.Path.{◌≡◌, refl, sym, subst, ◌∙◌}
use mathlib.Core.List.{List}
use mathlib.Core.Bool.{Bool, true, false, cond, true≢false}
use native.Mathlib.Omega.{arith}
use lib.Dec.{eqb}
use borrow.Author.Tests.{eqb-true, leb-false, not-false}
use Rattle.rules.specs.declared.Call.{Call}
use Rattle.rules.specs.Page.{Table}
use Rattle.rules.specs.Step.{Accepted, step, unopened}
use Rattle.history.specs.Demand3.{after, heed, Seats, nowhere, seats, seated}
use Rattle.rules.specs.Ledger.{Ledger, is_open, Hart, outside}
use Rattle.rules.specs.Effects.{ledger, entered}
use Rattle.rules.proofs.Accepted.{call, Every, by_call, Passed, opened-before, not_again, hart_counted, at_number}
use Rattle.history.proofs.Runs.{kept, kept_by}
use Rattle.history.proofs.Sizes.{Sizes, shut, now_open}

pub record Seated (x : Seats) (harts pages : ℕ) (hart : ℕ → Hart) : Type 0 where
  pub sizes : Sizes harts pages
  pub harts_are : x.harts ≡ harts
  pub pages_are : x.pages ≡ pages
  pub places_are : (j : ℕ) → x.place j ≡ (hart j).place
  pub none_past : (j : ℕ) → harts ≤ j → (hart j).place ≡ outside

abbrev pub SeatedIn : Seats → Ledger → Type 0
SeatedIn x l = Seated x l.harts l.pages l.hart

pub seated-first : Seated (nowhere 0 0) 0 0 (λ j. record { place = outside; mark = λ k. mathlib.Core.Option.none })
seated-first = record { sizes = shut refl refl; harts_are = refl; pages_are = refl; places_are = λ j. refl; none_past = λ j b. refl }

module _ (x : Seats) (l : Ledger) (t : Table) (c : Call) (s : SeatedIn x l) where
  -- a hart of the count goes to a place
  moves_to : (y : Hart) → c.hart < l.harts
      → Seated (record { harts = x.harts; pages = x.pages; place = λ j. cond (eqb j c.hart) y.place (x.place j) }) l.harts l.pages (λ j. cond (eqb j c.hart) y (l.hart j))
  moves_to y b = record { sizes = s.sizes; harts_are = s.harts_are; pages_are = s.pages_are; places_are = λ j. go j (eqb j c.hart); none_past = λ j d. past j d (eqb j c.hart) refl }
    where
      go : (j : ℕ) (b : Bool) → cond b y.place (x.place j) ≡ (cond b y (l.hart j)).place
      go j true = refl
      go j false = s.places_are j

      past : (j : ℕ) → l.harts ≤ j → (b : Bool) → eqb j c.hart ≡ b → (cond b y (l.hart j)).place ≡ outside
      past j d true e = let z = eqb-true j c.hart e in absurd (omega arith)
      past j d false e = s.none_past j d

  -- a call keeps the seats true, and a ledger open
  abbrev Kept : Call → Type 0
  Kept d = Passed l t d → SeatedIn (seats d x) (ledger l t d) × (is_open l ≡ true → is_open (ledger l t d) ≡ true)

  by15 : Kept (call 15 c)
  unfolding at_number seats
  by15 p = (moves_to (entered l t (call 15 c) (l.hart c.hart)) (leb-false l.harts c.hart (hart_counted l t (call 15 c) p)), λ o. o)

  by32 : Kept (call 32 c)
  unfolding at_number seats
  by32 p = (moves_to (record { place = outside; mark = (l.hart c.hart).mark }) (leb-false l.harts c.hart (hart_counted l t (call 32 c) p)), λ o. o)

  by33 : Kept (call 33 c)
  unfolding at_number seats
  by33 p = (
    record { sizes = now_open l t c p; harts_are = refl; pages_are = refl; places_are = λ j. refl; none_past = λ j b. refl },
    λ o. absurd (true≢false (sym o ∙ not_again l t (call 33 c) p)),
  )

  each_kept : Every (λ n. Kept (call n c))
  unfolding at_number seats
  each_kept = by_call (λ n. Kept (call n c)) (record {
    convert = λ p. (s, λ o. o);
    reclaim = λ p. (s, λ o. o);
    global-fence = λ p. (s, λ o. o);
    local_fence = λ p. (s, λ o. o);
    create = λ p. (s, λ o. o);
    finalize = λ p. (s, λ o. o);
    destroy = λ p. (s, λ o. o);
    region = λ p. (s, λ o. o);
    pool = λ p. (s, λ o. o);
    measured = λ p. (s, λ o. o);
    zeros = λ p. (s, λ o. o);
    vcpu = λ p. (s, λ o. o);
    enter = by15;
    tvm_fence = λ p. (s, λ o. o);
    invalidate = λ p. (s, λ o. o);
    validate = λ p. (s, λ o. o);
    remove = λ p. (s, λ o. o);
    leave = by32;
    open_ledger = by33;
  })

  pub seats_kept : Every (λ n. Passed l t (call n c) → SeatedIn (seats (call n c) x) (ledger l t (call n c)))
  seats_kept n b p = (each_kept n b p).0

  pub open_kept : Every (λ n. Passed l t (call n c) → is_open l ≡ true → is_open (ledger l t (call n c)) ≡ true)
  open_kept n b p = (each_kept n b p).1

-- over a history, and one call more
pub seated-after : (t : Table) (cs : List Call) → SeatedIn (seated t cs) (after t cs).ledger
seated-after t cs = kept (λ c v t x. seats c x) (λ x l t. SeatedIn x l) (λ x l t c s. seats_kept x l t c s) (nowhere 0 0) (unopened t) cs seated-first

-- a ledger on which another call than open is accepted is open
pub open_then : (l : Ledger) (t : Table) (c : Call) → Passed l t c → eqb c.number 33 ≡ false → is_open l ≡ true
open_then l t c p e = not-false (is_open l) (rw e at (opened-before l t c p))

pub seated_then : (t : Table) (cs : List Call) (c : Call) (v : ℕ) → (step (after t cs) c).answer ≡ Accepted v → SeatedIn (seats c (seated t cs)) (step (after t cs) c).after.ledger
seated_then t cs c v a =
    subst (λ x. SeatedIn (heed (λ c v t x. seats c x) c x (step (after t cs) c).after.table (seated t cs)) (step (after t cs) c).after.ledger) a
    (kept_by (λ c v t x. seats c x) (λ x l t. SeatedIn x l) (λ x l t c s. seats_kept x l t c s) (seated t cs) (after t cs) c (seated-after t cs))
