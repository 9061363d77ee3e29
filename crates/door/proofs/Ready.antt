-- What refusals 1 to 5 leave, said of the words, the bytes and what the door made of the call.
-- Assumes nothing.
use Prim.Native.Nat.{ℕ, ◌+◌, ◌*◌, ◌/◌, ◌≤◌, ◌<◌}
use mathlib.Core.Path.{◌≡◌, refl, sym, subst}
use mathlib.Core.Logic.{⊎_elim}
use mathlib.Core.Bool.{true, false, not, ◌&&◌, ◌||◌}
use mathlib.Core.List.{List}
use native.Mathlib.Omega.{arith}
use lib.Dec.{eqb}
use lib.ListN.{length}
use borrow.Author.Tests.{eqb-true, not-false}
use Rattle.sets.specs.Terms.{one_of, one_from, within}
use Rattle.sets.proofs.Bools.{or_cases, and_left, and_right, and_off}
use Rattle.sets.proofs.OneOf.{one_off}
use Rattle.rules.specs.declared.Call.{Call}
use Rattle.rules.specs.declared.Role.TheVariants.{Tvm, HostBase, FreeBase, DirectoryBase, UnitCount, UnitType, GuestBase, PageCount}
use Rattle.rules.specs.Calls.{entry_of, opens, moves, names, arg, size, memory, index}
use Rattle.rules.specs.Page.{fits}
use Rattle.rules.specs.Refusals.{refuses4}
use Rattle.rules.specs.Encoding.{view, pages_of}
use Rattle.rules.proofs.CallTable.{each, is_named, with_it, named_at, not_that}
use Rattle.rules.proofs.Accepted.{Early, not-early}
use Rattle.rules.proofs.Bounds.{Placed, in_within, fits-is, slot_in, table_is, size_in, host_in, free_in, directory_in, guest_in}
use Rattle.door.specs.Ready.{Ready}

-- ---- 17 to 19
pub by_move : (P : ℕ → Type 0) → P 17 → P 18 → P 19 → (c : Call) → moves c ≡ true → P c.number
by_move P p17 p18 p19 c m =
    ⊎_elim
    (λ e. ⊎_elim (λ f. subst P (sym (eqb-true c.number 17 f)) p17) (λ f. subst P (sym (eqb-true c.number 18 f)) p18) (or_cases (eqb c.number 17) (eqb c.number 18) e))
    (λ e. subst P (sym (eqb-true c.number 19 e)) p19)
    (or_cases (eqb c.number 17 || eqb c.number 18) (eqb c.number 19) m)

pub moves_guest : (c : Call) → moves c ≡ true → names GuestBase c ≡ true
unfolding names entry_of one_of one_from
moves_guest c m = by_move (λ n. is_named GuestBase (entry_of n) ≡ true) refl refl refl c m

pub moves_tvm : (c : Call) → moves c ≡ true → names Tvm c ≡ true
unfolding names entry_of one_of one_from
moves_tvm c m = by_move (λ n. is_named Tvm (entry_of n) ≡ true) refl refl refl c m

pub moves-not_9 : (c : Call) → moves c ≡ true → eqb c.number 9 ≡ false
moves-not_9 c m = by_move (λ n. eqb n 9 ≡ false) refl refl refl c m

-- ---- 11 and 12, which name a type
pub typed_guest : (c : Call) → names UnitType c ≡ true → names GuestBase c ≡ true
unfolding each entry_of one_of one_from
typed_guest c n = with_it UnitType GuestBase refl refl c n

pub typed_tvm : (c : Call) → names UnitType c ≡ true → names Tvm c ≡ true
unfolding each entry_of one_of one_from
typed_tvm c n = with_it UnitType Tvm refl refl c n

pub typed_not_9 : (c : Call) → names UnitType c ≡ true → eqb c.number 9 ≡ false
unfolding entry_of one_of one_from
typed_not_9 c n = not_that 9 UnitType c refl n

-- ---- 9, a region
pub region_guest : (c : Call) → c.number ≡ 9 → names GuestBase c ≡ true
unfolding entry_of one_of one_from
region_guest c e = named_at 9 GuestBase c e

pub region_untyped : (c : Call) → c.number ≡ 9 → names UnitType c ≡ false
unfolding entry_of one_of one_from
region_untyped c e = named_at 9 UnitType c e

-- ---- no call on pages opens
pub guest_not_open : (c : Call) → names GuestBase c ≡ true → opens c ≡ false
unfolding entry_of one_of one_from
guest_not_open c n = not_that 33 GuestBase c refl n

host_not_open : (c : Call) → names HostBase c ≡ true → opens c ≡ false
unfolding entry_of one_of one_from
host_not_open c n = not_that 33 HostBase c refl n

free_not_open : (c : Call) → names FreeBase c ≡ true → opens c ≡ false
unfolding entry_of one_of one_from
free_not_open c n = not_that 33 FreeBase c refl n

directory_not_open : (c : Call) → names DirectoryBase c ≡ true → opens c ≡ false
unfolding entry_of one_of one_from
directory_not_open c n = not_that 33 DirectoryBase c refl n

-- what is counted is no region
pub counted_not_9 : (c : Call) → names UnitCount c ≡ true → eqb c.number 9 ≡ false
unfolding entry_of one_of one_from
counted_not_9 c n = not_that 9 UnitCount c refl n

module _ {ws b : List ℕ} {c : Call} {pages : ℕ} (r : Ready ws b c pages) where
  pub early_of : Early (view ws) (pages_of b) c
  early_of = not-early (view ws) (pages_of b) c r.early_off

  -- the table has the ledger's records, and at most 4,096
  pub all_records : opens c ≡ false → length b ≡ 8 * (view ws).pages
  unfolding pages_of
  all_records n = table_is (view ws) (pages_of b) c early_of n

  pub tvm_fits : names Tvm c ≡ true → arg Tvm c < 16
  tvm_fits n = slot_in (view ws) (pages_of b) c early_of n

  pub pages_fit : eqb c.number 9 ≡ false → pages ≤ 4096
  pages_fit n = rw r.sized (size_in (view ws) (pages_of b) c early_of n)

  pub guest_fits : names GuestBase c ≡ true → arg GuestBase c / 4096 + pages ≤ 1048576
  guest_fits n = rw r.sized (guest_in (view ws) (pages_of b) c early_of n)

  in_table : (base n : ℕ) → opens c ≡ false → Placed base n (view ws).pages → (memory ≤ base) × (8 * (index base + n) ≤ length b)
  in_table base n o p = (p.above, omega (arith, p.inside, all_records o))

  pub host_fits : names HostBase c ≡ true → (memory ≤ arg HostBase c) × (8 * (index (arg HostBase c) + pages) ≤ length b)
  host_fits n = rw r.sized (in_table (arg HostBase c) (size c) (host_not_open c n) (host_in (view ws) (pages_of b) c early_of n))

  pub free_fits : names FreeBase c ≡ true → (memory ≤ arg FreeBase c) × (8 * (index (arg FreeBase c) + pages) ≤ length b)
  free_fits n = rw r.sized (in_table (arg FreeBase c) (size c) (free_not_open c n) (free_in (view ws) (pages_of b) c early_of n))

  pub directory_fits : names DirectoryBase c ≡ true → (memory ≤ arg DirectoryBase c) × (8 * (index (arg DirectoryBase c) + 4) ≤ length b)
  directory_fits n = in_table (arg DirectoryBase c) 4 (directory_not_open c n) (directory_in (view ws) (pages_of b) c early_of n)

  -- open has the table's own length
  pub opening-fits : opens c ≡ true → (8 * arg PageCount c ≤ length b) × (arg PageCount c ≤ 4096)
  unfolding pages_of refuses4
  opening-fits o =
      let n = arg PageCount c in
      let x = not-false (within 1 4096 n && fits (pages_of b) n) (and_off (opens c) (not (within 1 4096 n && fits (pages_of b) n)) (one_off _ early_of.e4 11) o) in
      let h = in_within 1 4096 n (and_left (within 1 4096 n) (fits (pages_of b) n) x) in
      let e : length b ≡ 8 * n = fits-is (pages_of b) n (and_right (within 1 4096 n) (fits (pages_of b) n) x) in
      (omega (arith, e), omega (arith, h.1))
