-- Document 01, "What the ledger covers" and "Fences": what the ledger keeps. The global fence, 16 slots, 8 harts.
use Rattle.std.proofs.Math.Option.{Option, none, some}
use Rattle.std.specs.Prelude.{ℕ, ◌+◌, ◌*◌, Bool, true, false, not, ◌&&◌, ltb, eqb}
use Rattle.sets.specs.Terms.{put, within}
use Rattle.rules.specs.Fence.{Harts, Tracker}

-- a region: its first guest page and how many there are; one of no pages is none
pub record Region : Type 0 where
  pub first : ℕ
  pub pages : ℕ

-- a slot: its phase (0 empty, 1 initializing, 2 runnable), its fence, the vCPUs made (0 to 7), its regions (0 to 7)
pub record Slot : Type 0 where
  pub phase : ℕ
  pub fence : Tracker
  pub made : ℕ → Bool
  pub region : ℕ → Region

-- where a hart is (inside: slot and vCPU), and "for each slot, the version at its last flush, or never"
pub data Place : Type 0 where
  outside : Place
  inside : ℕ → ℕ → Place

pub record Hart : Type 0 where
  pub place : Place
  pub mark : ℕ → Option ℕ

pub record Ledger : Type 0 where
  pub harts : ℕ
  pub pages : ℕ
  pub global : Tracker
  pub slot : ℕ → Slot
  pub hart : ℕ → Hart

-- a ledger is open when its sizes are such as open gives: "harts 1 to 8; memory 1 to 4,096 pages"
abbrev pub is_open : Ledger → Bool
is_open l = within 1 8 l.harts && within 1 4096 l.pages

-- a slot put together; one with no vCPUs and no regions
abbrev pub slot : ℕ → Tracker → (ℕ → Bool) → (ℕ → Region) → Slot
slot phase fence made region = record { phase = phase; fence = fence; made = made; region = region }

abbrev pub bare : ℕ → Tracker → Slot
bare phase fence = slot phase fence (λ v. false) (λ i. record { first = 0; pages = 0 })

-- "all start at 0": the fresh ledger that open makes; `opened 0 0` is not open
abbrev pub start : Tracker
start = record { version = 0; awaited = λ j. false }

abbrev pub opened : ℕ → ℕ → Ledger
opened harts pages = record {
  harts = harts;
  pages = pages;
  global = start;
  slot = λ k. bare 0 start;
  hart = λ j. record { place = outside; mark = λ k. none };
}

-- one part put anew
abbrev pub with_global : Tracker → Ledger → Ledger
with_global g l = record { harts = l.harts; pages = l.pages; global = g; slot = l.slot; hart = l.hart }

abbrev pub with_slot : ℕ → Slot → Ledger → Ledger
with_slot k s l = record { harts = l.harts; pages = l.pages; global = l.global; slot = put k s l.slot; hart = l.hart }

abbrev pub with_hart : ℕ → Hart → Ledger → Ledger
with_hart h x l = record { harts = l.harts; pages = l.pages; global = l.global; slot = l.slot; hart = put h x l.hart }

abbrev pub with_fence : Tracker → Slot → Slot
with_fence f s = slot s.phase f s.made s.region

-- where a hart is; "value: slot × 8 + vCPU"
abbrev pub is_outside : Place → Bool
is_outside outside = true
is_outside (inside k v) = false

abbrev pub is_in_slot : ℕ → Place → Bool
is_in_slot k outside = false
is_in_slot k (inside j v) = eqb j k

abbrev pub is_at : ℕ → ℕ → Place → Bool
is_at k v outside = false
is_at k v (inside j w) = eqb j k && eqb w v

abbrev pub slot_of : Place → ℕ
slot_of outside = 0
slot_of (inside k v) = k

abbrev pub place_number : Place → ℕ
place_number outside = 0
place_number (inside k v) = k * 8 + v

-- "globally, every hart but the caller; for a TVM, every hart now inside it"
abbrev pub others_of : Ledger → ℕ → Harts
others_of l h j = ltb j l.harts && not (eqb j h)

abbrev pub insiders_of : Ledger → ℕ → Harts
insiders_of l k j = is_in_slot k (l.hart j).place

-- "Entry flushes exactly when that isn't the slot's version."
abbrev pub flushes : Option ℕ → ℕ → Bool
flushes none v = true
flushes (some m) v = not (eqb m v)
