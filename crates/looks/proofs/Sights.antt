-- One look finds refusals 6, 7 and 14.
-- Assumes nothing.
use Prim.Native.Nat.{ℕ, ◌+◌, ◌*◌, ◌≤◌}
use mathlib.Core.Path.{◌≡◌, refl, sym, ◌∙◌, ap}
use mathlib.Core.Bool.{Bool, true, false, cond, not, ◌&&◌, ◌||◌, true≢false}
use mathlib.Core.List.{List}
use lib.Dec.{eqb}
use lib.ListN.{length}
use Rattle.std.specs.Prelude.{Option, None, Some, MatchOption, is_none}
use Rattle.sets.specs.Terms.{one_of, one_from, row}
use Rattle.sets.specs.Look.{any}
use Rattle.sets.proofs.Bools.{or_left, or_right}
use Rattle.rules.specs.Page.{Table, is_cut, is_free}
use Rattle.rules.specs.Fence.{Tracker, done}
use Rattle.rules.specs.Ledger.{Ledger}
use Rattle.rules.specs.declared.Call.{Call}
use Rattle.rules.specs.declared.Role.TheVariants.{HostBase, FreeBase, DirectoryBase}
use Rattle.rules.specs.Calls.{moves, names, arg, size, first_guest, index, memory}
use Rattle.rules.specs.Refusals.{the_slot, the_one, mapped, any_page, any_guest, refuses6, refuses7, refuses14}
use Rattle.rules.proofs.Spans.{host_spans_lem, free_spans_lem}
use Rattle.records.specs.Passes.{wanted, unfinished, range_look, guest_look}
use Rattle.records.specs.declared.range.AllWanted.{AllWanted}
use Rattle.records.specs.declared.guest.AllMapped.{AllMapped}
use Rattle.door.specs.Asked.{named}
use Rattle.looks.specs.declared.sight.Sight.{Sight}
use Rattle.looks.specs.Sights.{Seen, InTable, is_unwanted, is_unfinished, is_unready, is_undone, has_cut, look_at, guests_at}

-- ---- a look that is made where something is named, and answers none where something is amiss
none-is : {A : Type 0} (named amiss : Bool) (found unasked : A) → is_none (cond named (cond amiss None (Some found)) (Some unasked)) ≡ (named && amiss)
none-is true true found unasked = refl
none-is true false found unasked = refl
none-is false amiss found unasked = refl

-- what it says where it is not none, of something that holds of nothing that is not asked
said : {A : Type 0} (says : Option A → Bool) (named amiss : Bool) (found unasked : A) → says (Some unasked) ≡ false
    → is_none (cond named (cond amiss None (Some found)) (Some unasked)) ≡ false
    → says (cond named (cond amiss None (Some found)) (Some unasked)) ≡ (named && says (Some found))
said says true true found unasked n e = absurd (true≢false e)
said says true false found unasked n e = refl
said says false amiss found unasked n e = n

-- what `is_none` answers
pub of_none : (r some : Bool) → some ≡ not r → r ≡ not some
of_none true some e = rw e
of_none false some e = rw e

-- what a test of the value answers, and false of none
pub of_some : {A : Type 0} (says : Option A → Bool) (o : Option A) (r : Bool) (P : A → Type 0) → says None ≡ false → MatchOption o (r ≡ false) P
    → ((x : A) → P x → r ≡ says (Some x)) → r ≡ says o
of_some says None r P n h test = h ∙ sym n
of_some says (Some x) r P n h test = test x h

-- ---- pages
module _ (t : Table) (base pages : ℕ) (host : Bool) (f : Tracker) where
  abbrev amiss : Bool
  amiss = any (λ i. not (wanted host (t.page (index base + i)).kind)) pages

  abbrev waiting : Bool
  waiting = any (λ i. unfinished f (t.page (index base + i))) pages

  unwanted_is : (asked : Bool) → is_unwanted (look_at t (cond asked (Some base) None) pages host f) ≡ (asked && amiss)
  unfolding range_look
  unwanted_is true = none-is true amiss _ (record { unfinished = false })
  unwanted_is false = refl

  unfinished-is : (asked : Bool) → is_unwanted (look_at t (cond asked (Some base) None) pages host f) ≡ false
      → is_unfinished (look_at t (cond asked (Some base) None) pages host f) ≡ (asked && waiting)
  unfolding range_look
  unfinished-is true = said is_unfinished true amiss _ (record { unfinished = false }) refl
  unfinished-is false = λ _. refl

-- pages that are in the table where they are asked for
pub asked_in : (asked : Bool) (base pages : ℕ) (b : List ℕ) → (asked ≡ true → (memory ≤ base) × (8 * (index base + pages) ≤ length b)) → InTable (cond asked (Some base) None) pages b
asked_in true base pages b h = h refl
asked_in false base pages b h = tt

-- ---- guest pages, and the whole
module _ (l : Ledger) (t : Table) (c : Call) where
  abbrev unready : Bool
  unready = any_guest l t c (λ g. not (mapped l t c g && eqb (t.page (the_one l t c g)).kind (row c.number 17 7 8)))

  abbrev undone : Bool
  undone = any_guest l t c (λ g. not (done (the_slot l t c).fence (t.page (the_one l t c g)).version))

  abbrev cut : Bool
  cut = any_guest l t c (λ g. is_cut (first_guest c) (size c) (t.page (the_one l t c g)))

  unready_is : is_unready (guests_at l t c) ≡ (moves c && unready)
  unfolding guest_look
  unready_is = none-is (moves c) unready _ _

  undone_is : is_unready (guests_at l t c) ≡ false → is_undone (guests_at l t c) ≡ (moves c && undone)
  unfolding guest_look
  undone_is = said is_undone (moves c) unready _ _ refl

  cut_is : is_unready (guests_at l t c) ≡ false → has_cut (guests_at l t c) ≡ (moves c && cut)
  unfolding guest_look
  cut_is = said has_cut (moves c) unready _ _ refl

  -- 18 and 19 are among 17 to 19
  among : (a b d x : Bool) → ((b || d) && ((a || b || d) && x)) ≡ ((b || d) && x)
  among a false false x = refl
  among true true d x = refl
  among false true d x = refl
  among true false true x = refl
  among false false true x = refl

  abbrev host_look : Option AllWanted
  host_look = look_at t (named HostBase c) (size c) true l.global

  abbrev directory_look : Option AllWanted
  directory_look = look_at t (named DirectoryBase c) 4 false l.global

  abbrev free_look : Option AllWanted
  free_look = look_at t (named FreeBase c) (size c) false l.global

  abbrev sight_of : Option AllWanted → Option AllWanted → Option AllWanted → Option AllMapped → Sight
  sight_of h d f g = record {
    refuses6 = is_unwanted h || (is_unwanted d || is_unwanted f) || is_unready g;
    refuses7 = (is_unfinished d || is_unfinished f) || (eqb c.number 18 || eqb c.number 19) && is_undone g;
    refuses14 = has_cut g;
  }

  pub seen : Seen l t c (sight_of host_look directory_look free_look (guests_at l t c))
  unfolding refuses6 refuses7 refuses14 one_of one_from
  seen = record {
    six = λ i. (unwanted_is t (arg HostBase c) (size c) true l.global (names HostBase c) ∙ sym (host_spans_lem (any_page l t c (λ p. not (eqb p.kind 0))) c)) i
        || ((λ j. unwanted_is t (arg DirectoryBase c) 4 false l.global (names DirectoryBase c) j || unwanted_is t (arg FreeBase c) (size c) false l.global (names FreeBase c) j)
        ∙ sym (free_spans_lem (any_page l t c (λ p. not (is_free p))) c)) i || unready_is i;
    seven = λ e.
        let h = or_left (is_unwanted host_look || (is_unwanted directory_look || is_unwanted free_look)) (is_unready (guests_at l t c)) e in
        let df = or_right (is_unwanted host_look) (is_unwanted directory_look || is_unwanted free_look) h in
        let g = or_right (is_unwanted host_look || (is_unwanted directory_look || is_unwanted free_look)) (is_unready (guests_at l t c)) e in
        let ds = unfinished-is t (arg DirectoryBase c) 4 false l.global (names DirectoryBase c) (or_left (is_unwanted directory_look) (is_unwanted free_look) df) in
        let fs = unfinished-is t (arg FreeBase c) (size c) false l.global (names FreeBase c) (or_right (is_unwanted directory_look) (is_unwanted free_look) df) in
        λ i. ((λ j. ds j || fs j) ∙ sym (free_spans_lem (any_page l t c (unfinished l.global)) c)) i
        || (ap (λ (b : Bool). (eqb c.number 18 || eqb c.number 19) && b) (undone_is g) ∙ among (eqb c.number 17) (eqb c.number 18) (eqb c.number 19) undone) i;
    fourteen = λ e. cut_is (or_right (is_unwanted host_look || (is_unwanted directory_look || is_unwanted free_look)) (is_unready (guests_at l t c)) e);
  }
