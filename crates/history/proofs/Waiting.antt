-- A watch on one page, over all calls: it is enough to say for each call that it does not write the page to its kind again, and how it moves the
-- fence and the watch alike.
-- Assumes nothing.
use Prim.Native.Nat.{ℕ}
use mathlib.Core.Path.{◌≡◌, sym, ◌∙◌, ap}
use mathlib.Core.Bool.{Bool, true, false, cond, not, ◌&&◌, true≢false}
use mathlib.Core.List.{List}
use lib.Dec.{eqb}
use Rattle.sets.proofs.Bools.{and_left, and_right}
use Rattle.rules.specs.declared.Page.{Page}
use Rattle.rules.specs.declared.Call.{Call}
use Rattle.rules.specs.Page.{Table}
use Rattle.rules.specs.Fence.{Harts, Tracker, done}
use Rattle.rules.specs.Ledger.{Ledger, is_open}
use Rattle.rules.specs.Effects.{table, ledger, value, writes, written}
use Rattle.rules.specs.Step.{State, step}
use Rattle.history.specs.Demand3.{after, seats, seated, Fencing, Watch, watching, Turned, later, watch, ended, not_done, Waits}
use Rattle.rules.proofs.Accepted.{call, ByCall, by_call, Passed}
use Rattle.history.proofs.Runs.{EachKeeps, kept}
use Rattle.history.proofs.Seats.{SeatedIn, seats_kept, open_kept, seated_then}
use Rattle.history.proofs.Watch.{Inv, inv_done, unwritten}
use Rattle.history.proofs.Needed.{needed, blamed}

-- the record is the one that the call wrote, and the watch agrees with the tracker
pub record Live (m k r : ℕ) (f : Tracker) (begun : Bool) (owing : Harts) (q : Page) : Type 0 where
  pub kind_is : q.kind ≡ m
  pub slot_is : q.slot ≡ k
  pub version-is : q.version ≡ r
  pub inv : Inv r f begun owing

-- so it is while the page keeps its kind
pub record Watched (m k r : ℕ) (w : Watch) (l : Ledger) (f : Tracker) (q : Page) : Type 0 where
  pub sits : SeatedIn w.seats l
  pub still_open : is_open l ≡ true
  pub live : w.lasts ≡ true → Live m k r f w.begun w.owing q

module _ (f : Fencing) (fence : Ledger → Tracker) (m p k r : ℕ) where
  abbrev pub I : Watch → Ledger → Table → Type 0
  I w l t = Watched m k r w l (fence l) (t.page p)

  -- the page and its fence before the call
  abbrev pub Old : Watch → Ledger → Table → Type 0
  Old w l t = Live m k r (fence l) w.begun w.owing (t.page p)

  -- the watch after the accepted call d
  abbrev pub next : Watch → Ledger → Table → Call → Watch
  next w l t d = watching f m p d (value l t d) (table l t d) w

  -- the call writes it to another kind, or leaves it and moves fence and watch alike
  pub record Fate (w : Watch) (l : Ledger) (t : Table) (d : Call) : Type 0 where
    pub other : Old w l t → writes l t d p ≡ true → eqb (written l t d p).kind m ≡ false
    pub moves_on : Old w l t → writes l t d p ≡ false → Inv r (fence (ledger l t d)) (next w l t d).begun (next w l t d).owing

  abbrev pub EachFate : Type 0
  EachFate = (w : Watch) (l : Ledger) (t : Table) (c : Call) → I w l t → ByCall (λ n. Passed l t (call n c) → Fate w l t (call n c))

  one : (w : Watch) (l : Ledger) (t : Table) (d : Call) → I w l t → SeatedIn (seats d w.seats) (ledger l t d) → is_open (ledger l t d) ≡ true → Fate w l t d
      → I (next w l t d) (ledger l t d) (table l t d)
  unfolding watching table
  one w l t d s h o e = record { sits = h; still_open = o; live = go }
    where
      new : Page
      new = cond (writes l t d p) (written l t d p) (t.page p)

      go : (w.lasts && eqb new.kind m) ≡ true → Live m k r (fence (ledger l t d)) (next w l t d).begun (next w l t d).owing new
      go g =
          let old = s.live (and_left w.lasts (eqb new.kind m) g) in
          let (no_write, same) = unwritten m (writes l t d p) (written l t d p) (t.page p) (e.other old) (and_right w.lasts (eqb new.kind m) g) in
          record {
            kind_is = ap (λ (q : Page). q.kind) same ∙ old.kind_is;
            slot_is = ap (λ (q : Page). q.slot) same ∙ old.slot_is;
            version-is = ap (λ (q : Page). q.version) same ∙ old.version-is;
            inv = e.moves_on old no_write;
          }

  module _ (fates : EachFate) where
    keep : EachKeeps (watching f m p) I
    keep w l t c s n b q =
        one w l t (call n c) s (seats_kept w.seats l t c s.sits n b q) (open_kept w.seats l t c s.sits n b q s.still_open) (by_call _ (fates w l t c s) n b q)

    -- by the page's kind and slot, that is the fence that counts
    module _ (counts : (s : State) → (s.table.page p).kind ≡ m → (s.table.page p).slot ≡ k → not_done s.ledger (s.table.page p) ≡ not (done (fence s.ledger) (s.table.page p).version)) where
      ends : (s : State) (w : Watch) → Live m k r (fence s.ledger) w.begun w.owing (s.table.page p) → Waits fence p s w
      ends s w v = record {
        done_when = when;
        refused_before = λ e d n. needed s d p n (still ∙ ap not e);
        other_after = λ e d a. let (q, n, u) = blamed s d a in (q, λ z. true≢false (sym u ∙ ap (λ i. not_done s.ledger (s.table.page i)) z ∙ still ∙ ap not e), n, u);
      }
        where
          when : done (fence s.ledger) (s.table.page p).version ≡ ended w
          when = ap (done (fence s.ledger)) v.version-is ∙ inv_done r (fence s.ledger) w.begun w.owing v.inv

          still : not_done s.ledger (s.table.page p) ≡ not (ended w)
          still = counts s v.kind_is v.slot_is ∙ ap not when

      pub waits : (t : Table) (cs : List Call) (c : Call) (ds : List Call) → Turned m t cs c p → is_open (step (after t cs) c).after.ledger ≡ true
          → Live m k r (fence (step (after t cs) c).after.ledger) false (λ j. false) ((step (after t cs) c).after.table.page p)
          → (watch f m p t cs c ds).lasts ≡ true → Waits fence p (later t cs c ds) (watch f m p t cs c ds)
      waits t cs c ds turned o first lasts =
          let w = watch f m p t cs c ds in
          let whole : I w (later t cs c ds).ledger (later t cs c ds).table
          = kept (watching f m p) I keep (record { seats = seats c (seated t cs); lasts = true; begun = false; owing = λ j. false }) (step (after t cs) c).after ds
          (record { sits = seated_then t cs c turned.value turned.accepted; still_open = o; live = λ e. first }) in
          ends (later t cs c ds) w (whole.live lasts)
