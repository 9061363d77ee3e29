-- What the passes over records find and write, in the words of document 01's definitions.
use Rattle.std.specs.Prelude.{ℕ, ◌+◌, ◌-◌, ◌*◌, ◌%◌, Bool, cond, not, ◌&&◌, ◌||◌, List, ltb, leb, eqb, Option, None, Some}
use Rattle.sets.specs.Terms.{within, put}
use Rattle.sets.specs.Look.{any}
use Rattle.sets.specs.Pages.{member_in, with_in}
use Rattle.rules.specs.declared.Page.{Page}
use Rattle.rules.specs.Page.{Table, page, is_mapped, guest_page, is_cut, meant, moved}
use Rattle.rules.specs.Fence.{Tracker, done}
use Rattle.records.specs.declared.range.AllWanted.{AllWanted}
use Rattle.records.specs.declared.guest.AllMapped.{AllMapped}

-- the table with one record put
abbrev pub put_page : ℕ → Page → Table → Table
put_page i p t = record { bytes = t.bytes; page = put i p t.page }

-- ---- a range of records
-- "free: 1 or 2; 11's source: 0"
abbrev pub wanted : Bool → ℕ → Bool
wanted host kind = cond host (eqb kind 0) (eqb kind 1 || eqb kind 2)

-- "it is kind 1, not done"
abbrev pub unfinished : Tracker → Page → Bool
unfinished fence p = eqb p.kind 1 && not (done fence p.version)

-- none where a page is not wanted; else whether some is unfinished
unfoldable pub range_look : Table → ℕ → ℕ → Bool → Tracker → Option AllWanted
range_look t first count host fence =
    cond (any (λ i. not (wanted host (t.page (first + i)).kind)) count) None
    (Some (record { unfinished = any (λ i. unfinished fence (t.page (first + i))) count }))

-- p with a guest word that is `step` more from each record to the next
abbrev pub stepped : Page → ℕ → ℕ → Page
stepped p step i = page p.kind p.slot p.version (p.guest + step * i)

-- ---- the records that a guest range means
-- how far the page of a guest word is after `first`, counting on from the last of the 1,048,576 guest pages to page 0
abbrev pub offset_of : ℕ → ℕ → ℕ
offset_of guest first = (guest % 1048576 + 1048576 - first) % 1048576

-- the record claims one of the `count` guest pages from `first` on
abbrev pub claims_in : ℕ → ℕ → ℕ → Page → Bool
claims_in slot first count p = is_mapped p && eqb p.slot slot && within first count (guest_page p)

-- and none before it did; the set of those seen, with it
unfoldable pub is_new : ℕ → ℕ → ℕ → Page → List ℕ → Bool
is_new slot first count p seen = claims_in slot first count p && not (member_in 64 (guest_page p - first) seen)

unfoldable pub noted : ℕ → ℕ → ℕ → Page → List ℕ → List ℕ
noted slot first count p seen = cond (is_new slot first count p seen) (with_in 64 seen (guest_page p - first)) seen

-- none where a guest page is not mapped or its record not of the kind; else whether some is not done, and whether some large mapping is cut
unfoldable pub guest_look : Table → ℕ → ℕ → ℕ → ℕ → ℕ → Tracker → Option AllMapped
guest_look t n slot first count kind fence =
    cond (any (λ d. not (ltb (meant t n slot (first + d)) n && eqb (t.page (meant t n slot (first + d))).kind kind)) count) None
    (Some (record {
      undone = any (λ d. not (done fence (t.page (meant t n slot (first + d))).version)) count;
      cut = any (λ d. is_cut first count (t.page (meant t n slot (first + d)))) count;
    }))

abbrev pub large_bit : ℕ → ℕ
large_bit guest = cond (leb 2147483648 guest) 2147483648 0

-- a mapped page taken back, kind 2, or moved
abbrev pub becomes : ℕ → ℕ → ℕ → Page → Page
becomes kind slot version p = cond (eqb kind 2) (page 2 0 0 0) (moved kind slot version p)
