-- Demand 3: what holds over any calls from a fresh ledger. All its definitions and statements; `Demand3`, at the end, names them all, and
-- proofs/Demand3.antt proves it. A history is any list of calls, refused ones among them, from a ledger that is not open, on any lent table.
use Rattle.std.specs.Prelude.{◌≢◌, ℕ, ◌+◌, ◌-◌, ◌≤◌, ◌<◌, ◌≡◌, Bool, true, false, cond, not, ◌&&◌, ◌||◌, List, [], ◌∷◌, ltb, eqb}
use Rattle.sets.specs.Terms.{any_in, row, within, put}
use Rattle.rules.specs.declared.{Page.Page, Call.Call}
use Rattle.rules.specs.declared.Role.TheVariants.{Tvm, Vcpu, FreeBase, GuestBase, HartCount, PageCount}
use Rattle.rules.specs.Page.{Table, is_given, claims, is_meant}
use Rattle.rules.specs.Fence.{Harts, Tracker, someone, done}
use Rattle.rules.specs.Ledger.{Ledger, Place, inside, outside, is_outside, is_in_slot}
use Rattle.rules.specs.Calls.{names, arg, size, first_guest, index, free_spans}
use Rattle.rules.specs.Step.{Answer, Accepted, Refused, State, step, run, unopened}

-- ---- What is reckoned, from the calls of a history and what each was told
-- what the calls leave of the ledger and the table
abbrev pub after : Table → List Call → State
after t cs = run (unopened t) cs

-- "reckoned from the accepted calls": an accepted call c that was told v, and left the table t, makes f c v t g of g; a refused one leaves g
module _ {G : Type 0} (f : Call → ℕ → Table → G → G) where
  abbrev pub heed : Call → Answer → Table → G → G
  heed c (Accepted v) t g = f c v t g
  heed c (Refused n) t g = g

  unfoldable pub reckon : G → State → List Call → G
  reckon g s [] = g
  reckon g s (c ∷ cs) = reckon (heed c (step s c).answer (step s c).after.table g) (step s c).after cs

-- Where each hart is, from accepted enters and leaves; the numbers of harts and pages are those of the accepted open, 0 before it
pub record Seats : Type 0 where
  pub harts : ℕ
  pub pages : ℕ
  pub place : ℕ → Place

abbrev pub nowhere : ℕ → ℕ → Seats
nowhere harts pages = record { harts = harts; pages = pages; place = λ j. outside }

unfoldable pub seats : Call → Seats → Seats
seats c x =
    let goes : Place → Seats = λ p. record { harts = x.harts; pages = x.pages; place = put c.hart p x.place } in
    row c.number 15 (goes (inside (arg Tvm c) (arg Vcpu c)))
    (row c.number 32 (goes outside)
    (row c.number 33 (nowhere (arg HartCount c) (arg PageCount c)) x))

abbrev pub seated : Table → List Call → Seats
seated t cs = reckon (λ c v t x. seats c x) (nowhere 0 0) (unopened t) cs

-- ---- Holders. Document 01, "What holding and a translation are, for demand 3"
-- a page that a TVM (its slot) holds, and where the page was mapped for it, the guest page
pub data Held : Type 0 where
  nobody : Held
  holds : ℕ → Held
  maps : ℕ → ℕ → Held

abbrev pub is_held_by : ℕ → Held → Bool
is_held_by k nobody = false
is_held_by k (holds j) = eqb j k
is_held_by k (maps j g) = eqb j k

-- it was given to the slot at one of the `count` guest pages from `first` on
abbrev pub is_given_at : ℕ → ℕ → ℕ → Held → Bool
is_given_at k first count nobody = false
is_given_at k first count (holds j) = false
is_given_at k first count (maps j g) = eqb j k && within first count g

-- record p is one of the free pages that the call names
abbrev pub takes : Call → ℕ → Bool
takes c p = any_in (λ s. within (index s.base) s.pages p) (free_spans c)

-- "Create, pool, vCPU, measured (dest) and zero give the TVM their pages"
unfoldable pub gives : Call → ℕ → Bool
gives c p = (eqb c.number 5 || eqb c.number 10 || eqb c.number 11 || eqb c.number 12 || eqb c.number 14) && takes c p

-- create's TVM is the slot that it was told; "page i of a range goes to guest page i"
unfoldable pub given : Call → ℕ → ℕ → Held
given c v p = row c.number 5 (holds v) (cond (names GuestBase c) (maps (arg Tvm c) (first_guest c + (p - index (arg FreeBase c)))) (holds (arg Tvm c)))

-- "remove and destroy take them back"
unfoldable pub takes_back : Call → Held → Bool
takes_back c x = row c.number 8 (is_held_by (arg Tvm c) x) (row c.number 19 (is_given_at (arg Tvm c) (first_guest c) (size c) x) false)

-- "A page is held while it is given and not yet taken back, reckoned from the accepted calls and not read off the table"
unfoldable pub holding : Call → ℕ → Table → (ℕ → Held) → ℕ → Held
holding c v t H p = cond (gives c p) (given c v p) (cond (takes_back c (H p)) nobody (H p))

abbrev pub held : Table → List Call → ℕ → Held
held t cs = reckon holding (λ p. nobody) (unopened t) cs

-- "that this agrees with the table's kinds and slots is to be shown": a page is held by the slot k exactly when its kind is 3 to 8 and its slot k
abbrev pub HoldersAgree : Type 0
HoldersAgree =
    (t : Table) (cs : List Call) (p k : ℕ) → is_held_by k (held t cs p) ≡ (ltb p (after t cs).ledger.pages && (is_given ((after t cs).table.page p) && eqb ((after t cs).table.page p).slot k))

abbrev pub GivenUnheld : Type 0
GivenUnheld = (t : Table) (cs : List Call) (c : Call) (v p : ℕ) → (step (after t cs) c).answer ≡ Accepted v → gives c p ≡ true → held t cs p ≡ nobody

abbrev pub OneClaim : Type 0
OneClaim =
    (t : Table) (cs : List Call) (p q k g : ℕ) → p < (after t cs).ledger.pages → q < (after t cs).ledger.pages
    → claims k g ((after t cs).table.page p) ≡ true → claims k g ((after t cs).table.page q) ≡ true → p ≡ q

-- ---- Translations: which hart may hold which (slot, guest page, page), and a host translation to which page
pub record GuestView : Type 0 where
  pub seats : Seats
  pub may : ℕ → ℕ → ℕ → ℕ → Bool

-- "if it held it before and this call did not flush that slot on that hart": an enter that was told 1 flushes its slot on its hart
abbrev pub flushed : Call → ℕ → ℕ → ℕ → Bool
flushed c v j k = eqb c.number 15 && eqb v 1 && (eqb j c.hart && eqb k (arg Tvm c))

-- "or if the page is present there and the hart is now inside the slot"
abbrev pub may_fill : Seats → Table → ℕ → ℕ → ℕ → ℕ → Bool
may_fill x t j k g p = is_in_slot k (x.place j) && (ltb p x.pages && (eqb (t.page p).kind 7 && claims k g (t.page p)))

unfoldable pub guest_turn : Call → ℕ → Table → GuestView → GuestView
guest_turn c v t x = record { seats = seats c x.seats; may = λ j k g p. x.may j k g p && not (flushed c v j k) || may_fill (seats c x.seats) t j k g p }

abbrev pub guests : Table → List Call → GuestView
guests t cs = reckon guest_turn (record { seats = nowhere 0 0; may = λ j k g p. false }) (unopened t) cs

-- "It may use it only while inside", and then the page is now mapped, present or blocked, at that guest page of that TVM
abbrev pub GuestSafe : Type 0
GuestSafe =
    (t : Table) (cs : List Call) (j k g p : ℕ) → (guests t cs).may j k g p ≡ true → is_in_slot k ((guests t cs).seats.place j) ≡ true
    → (p < (after t cs).ledger.pages) × (claims k g ((after t cs).table.page p) ≡ true)

pub record HostView : Type 0 where
  pub seats : Seats
  pub may : ℕ → ℕ → Bool

-- "A hart outside may load a host translation to a kind 0 page"
abbrev pub may_load : Seats → Table → ℕ → ℕ → Bool
may_load x t j p = (ltb j x.harts && is_outside (x.place j)) && (ltb p x.pages && eqb (t.page p).kind 0)

-- "the hart's accepted local or global fence drops all of them first, then it may load again"
abbrev pub drops : Call → ℕ → Bool
drops c j = (eqb c.number 3 || eqb c.number 4) && eqb j c.hart

unfoldable pub host_turn : Call → ℕ → Table → HostView → HostView
host_turn c v t g = record { seats = seats c g.seats; may = λ j p. g.may j p && not (drops c j) || may_load (seats c g.seats) t j p }

abbrev pub hosts : Table → List Call → HostView
hosts t cs = reckon host_turn (record { seats = nowhere 0 0; may = λ j p. false }) (unopened t) cs

-- "A kind 1 page counts as free once its fence is done."
abbrev pub counts_free : Tracker → Page → Bool
counts_free g p = eqb p.kind 2 || eqb p.kind 1 && done g p.version

abbrev pub HostSafe : Type 0
HostSafe =
    (t : Table) (cs : List Call) (j p : ℕ) → (hosts t cs).may j p ≡ true → (counts_free (after t cs).ledger.global ((after t cs).table.page p) ≡ false) × (held t cs p ≡ nobody)

-- ---- Waiting. Document 01, "Fences": how long a page that was converted, or blocked, waits for its fence
-- which calls begin a fence and which harts those await; by which calls a hart does its part
pub record Fencing : Type 0 where
  pub begins : Call → Bool
  pub awaits : Call → Seats → Harts
  pub does : Call → Seats → Bool

-- "globally, every hart but the caller"; "A local fence strikes that hart out globally"
abbrev pub globally : Fencing
globally = record { begins = λ c. eqb c.number 3; awaits = λ c x j. ltb j x.harts && not (eqb j c.hart); does = λ c x. eqb c.number 4 }

-- "for a TVM, every hart now inside it"; "leaving a TVM, for that TVM"
abbrev pub for_tvm : ℕ → Fencing
for_tvm k = record {
  begins = λ c. eqb c.number 16 && eqb k (arg Tvm c);
  awaits = λ c x j. is_in_slot k (x.place j);
  does = λ c x. eqb c.number 32 && is_in_slot k (x.place c.hart);
}

-- whether the page has kept its kind since; whether a fence has begun since; which harts that the first such fence awaits are still owing
pub record Watch : Type 0 where
  pub seats : Seats
  pub lasts : Bool
  pub begun : Bool
  pub owing : Harts

-- one accepted call, of a watch on the page p while its kind is m
unfoldable pub watching : Fencing → ℕ → ℕ → Call → ℕ → Table → Watch → Watch
watching f m p c v t w = record {
  seats = seats c w.seats;
  lasts = w.lasts && eqb (t.page p).kind m;
  begun = f.begins c || w.begun;
  owing = cond (f.begins c) (cond w.begun w.owing (f.awaits c w.seats)) (cond (f.does c w.seats) (put c.hart false w.owing) w.owing);
}

-- after the calls cs, the accepted call c turned page p to the kind m
pub record Turned (m : ℕ) (t : Table) (cs : List Call) (c : Call) (p : ℕ) : Type 0 where
  pub value : ℕ
  pub accepted : (step (after t cs) c).answer ≡ Accepted value
  pub before : eqb ((after t cs).table.page p).kind m ≡ false
  pub now : eqb ((step (after t cs) c).after.table.page p).kind m ≡ true

-- then came the calls ds: what they leave, and the watch on page p
abbrev pub later : Table → List Call → Call → List Call → State
later t cs c ds = run (step (after t cs) c).after ds

abbrev pub watch : Fencing → ℕ → ℕ → Table → List Call → Call → List Call → Watch
watch f m p t cs c ds = reckon (watching f m p) (record { seats = seats c (seated t cs); lasts = true; begun = false; owing = λ j. false }) (step (after t cs) c).after ds

-- the wait is over: a fence has been accepted since, and each hart that the first one awaited has since done its part
abbrev pub ended : Watch → Bool
ended w = w.begun && not (someone w.owing)

-- Refusal 7: "a free page is wanted and it is kind 1, not done; 18, 19: recorded version not done". The pages that a call needs: those it takes
-- as free, and those that the guest pages of 18 and 19 mean; and a page whose version is not done, by the global fence or that of its TVM
unfoldable pub needs : State → Call → ℕ → Bool
needs s d p = takes d p || (eqb d.number 18 || eqb d.number 19) && is_meant s.table s.ledger.pages (arg Tvm d) (first_guest d) (size d) p

unfoldable pub not_done : Ledger → Page → Bool
not_done l q = eqb q.kind 1 && not (done l.global q.version) || eqb q.kind 8 && not (done (l.slot q.slot).fence q.version)

-- of page p until it changes kind, where s is what the calls since have left, and w the watch on it: its version is done exactly when the wait is
-- over; before that every call that needs it is refused, 7 unless a lower number holds; after that no call is refused 7 for that page, as one that
-- is refused 7 needs another page whose version is not done
pub record Waits (fence : Ledger → Tracker) (p : ℕ) (s : State) (w : Watch) : Type 0 where
  pub done_when : done (fence s.ledger) (s.table.page p).version ≡ ended w
  pub refused_before : ended w ≡ false → (d : Call) → needs s d p ≡ true → (n : ℕ) × (1 ≤ n) × (n ≤ 7) × ((step s d).answer ≡ Refused n)
  pub other_after : ended w ≡ true → (d : Call) → (step s d).answer ≡ Refused 7 → (q : ℕ) × (q ≢ p) × (needs s d q ≡ true) × (not_done s.ledger (s.table.page q) ≡ true)

-- a page that was converted waits for the global fence, one that was blocked for that of its TVM
abbrev pub ConvertedWaits : Type 0
ConvertedWaits =
    (t : Table) (cs : List Call) (c : Call) (p : ℕ) (ds : List Call) → c.number ≡ 1 → Turned 1 t cs c p → (watch globally 1 p t cs c ds).lasts ≡ true
    → Waits (λ l. l.global) p (later t cs c ds) (watch globally 1 p t cs c ds)

abbrev pub BlockedWaits : Type 0
BlockedWaits =
    (t : Table) (cs : List Call) (c : Call) (p : ℕ) (ds : List Call) → c.number ≡ 17 → Turned 8 t cs c p → (watch (for_tvm (arg Tvm c)) 8 p t cs c ds).lasts ≡ true
    → Waits (λ l. (l.slot (arg Tvm c)).fence) p (later t cs c ds) (watch (for_tvm (arg Tvm c)) 8 p t cs c ds)

-- ---- All of it
pub record Demand3 : Type 0 where
  -- "A page's holder is the one that accepted calls last gave it to."
  pub holders_agree : HoldersAgree
  -- "No page is given while held."
  pub given_unheld : GivenUnheld
  -- "No guest page of a VM has two pages."
  pub one_claim : OneClaim
  -- "No hart inside a VM may use a stale translation."
  pub guest_safe : GuestSafe
  -- "No host translation leads to a free or held page."
  pub host_safe : HostSafe
  -- "Waiting ends, exactly when the paper says."
  pub converted_waits : ConvertedWaits
  pub blocked_waits : BlockedWaits
