-- Document 01, "A page record".
use Rattle.std.specs.Prelude.{ℕ, ◌+◌, ◌*◌, ◌/◌, ◌%◌, Bool, cond, not, ◌&&◌, ◌||◌, ltb, leb, eqb}
use Rattle.sets.specs.Terms.{within}
use Rattle.sets.specs.Look.{lowest}
pub use Rattle.rules.specs.declared.Page.{Page}

-- A record by its four numbers. "Fields that a kind does not use are 0 when written." The kinds are the paper's: 0 ordinary, 1 converting,
-- 2 free confidential, 3 directory, 4 TVM state, 5 vCPU state, 6 page-table pool, 7 mapped, present, 8 mapped, blocked.
abbrev pub page : ℕ → ℕ → ℕ → ℕ → Page
page kind slot version guest = record { kind = kind; slot = slot; version = version; guest = guest }

-- "Guest page uses bits 0 to 19; bit 31 means part of a large mapping .. Bits 20 to 30 are ignored when read and 0 when written."
abbrev pub guest_page : Page → ℕ
guest_page p = p.guest % 1048576

abbrev pub is_large : Page → Bool
is_large p = leb 2147483648 p.guest

abbrev pub guest_word : ℕ → Bool → ℕ
guest_word g large = g + cond large 2147483648 0

-- "free: 1 or 2"; "records of kinds 3 to 8"
abbrev pub is_free : Page → Bool
is_free p = eqb p.kind 1 || eqb p.kind 2

abbrev pub is_given : Page → Bool
is_given p = leb 3 p.kind && leb p.kind 8

-- "A record claims a guest page of a slot when its kind is 7 or 8 and its slot and guest page are those."
abbrev pub is_mapped : Page → Bool
is_mapped p = eqb p.kind 7 || eqb p.kind 8

abbrev pub claims : ℕ → ℕ → Page → Bool
claims slot g p = is_mapped p && eqb p.slot slot && eqb (guest_page p) g

-- The lent table: its length in bytes, and its records. "Table length is in whole records; bytes left over fit no length."
pub record Table : Type 0 where
  pub bytes : ℕ
  pub page : ℕ → Page

abbrev pub fits : Table → ℕ → Bool
fits t n = eqb (t.bytes / 8) n && eqb (t.bytes % 8) 0

-- "Where several records claim one guest page of a slot, the lowest page index is meant": of the first n records, and n where none does
unfoldable pub meant : Table → ℕ → ℕ → ℕ → ℕ
meant t n slot g = lowest (λ i. claims slot g (t.page i)) n

-- record i is the one meant by one of the `count` guest pages from `first` on
unfoldable pub is_meant : Table → ℕ → ℕ → ℕ → ℕ → ℕ → Bool
is_meant t n slot first count i = ltb i n && within first count (guest_page (t.page i)) && eqb (meant t n slot (guest_page (t.page i))) i

-- "a large mapping isn't wholly inside the range"; it "is the 512 guest pages of the 2 MiB block around it"
abbrev pub is_cut : ℕ → ℕ → Page → Bool
is_cut first count p = let block = guest_page p / 512 * 512 in is_large p && not (leb first block && leb (block + 512) (first + count))

-- a mapped page of the slot with another kind and version: "bit 31 kept"
abbrev pub moved : ℕ → ℕ → ℕ → Page → Page
moved kind slot version p = page kind slot version (guest_word (guest_page p) (is_large p))

-- the table with the records that `which` names written anew
abbrev pub over : Table → (ℕ → Bool) → (ℕ → Page) → Table
over t which new = record { bytes = t.bytes; page = λ i. cond (which i) (new i) (t.page i) }
