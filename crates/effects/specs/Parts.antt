-- What an accepted call makes of a slot, a hart or a fence, said of these and not of the call.
use Rattle.std.proofs.Math.Option.{some}
use Rattle.std.specs.Prelude.{ℕ, true, cond}
use Rattle.sets.specs.Terms.{put}
use Rattle.sets.specs.Look.{lowest}
use Rattle.rules.specs.Fence.{begin, strike}
use Rattle.rules.specs.Ledger.{Ledger, Slot, Region, inside, outside, slot, slot_of, with_global, with_slot, with_hart, with_fence, others_of, insiders_of, flushes}
use Rattle.rules.specs.Refusals.{unused}

-- a place that holds no region
abbrev pub no_region : Region
no_region = record { first = 0; pages = 0 }

-- ---- a slot: with no regions, with one region more, with one vCPU more
abbrev pub cleared : Slot → Slot
cleared s = slot s.phase s.fence s.made (λ i. no_region)

abbrev pub added : ℕ → ℕ → Slot → Slot
added first pages s = slot s.phase s.fence s.made (put (lowest (unused s) 8) (record { first = first; pages = pages }) s.region)

abbrev pub peopled : ℕ → Slot → Slot
peopled v s = slot s.phase s.fence (put v true s.made) s.region

-- ---- a fence: the global one begun by a hart, a hart struck out of it, a slot's begun, a hart struck out of a slot's
abbrev pub begun : ℕ → Ledger → Ledger
begun h l = with_global (begin (others_of l h) l.global) l

abbrev pub struck : ℕ → Ledger → Ledger
struck h l = with_global (strike h l.global) l

abbrev pub begun_in : ℕ → Ledger → Ledger
begun_in k l = with_slot k (with_fence (begin (insiders_of l k) (l.slot k).fence) (l.slot k)) l

abbrev pub struck_in : ℕ → ℕ → Ledger → Ledger
struck_in k h l = with_slot k (with_fence (strike h (l.slot k).fence) (l.slot k)) l

-- ---- entering sets the mark, and its value is 1 where the hart flushes; leaving strikes the hart out of the slot where it is
abbrev pub entered : ℕ → ℕ → ℕ → Ledger → Ledger
entered h k v l = with_hart h (record { place = inside k v; mark = put k (some (l.slot k).fence.version) (l.hart h).mark }) l

abbrev pub flushed : ℕ → ℕ → Ledger → ℕ
flushed h k l = cond (flushes ((l.hart h).mark k) (l.slot k).fence.version) 1 0

abbrev pub left : ℕ → Ledger → Ledger
left h l = with_hart h (record { place = outside; mark = (l.hart h).mark }) (struck_in (slot_of (l.hart h).place) h l)
