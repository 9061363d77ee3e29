-- An accepted call: none of the conditions holds, and its number is one of the 19.
-- Assumes nothing.
use Prim.Native.Nat.{ℕ, suc, ◌+◌, ◌*◌}
use mathlib.Core.Path.{◌≡◌, refl, sym, subst}
use mathlib.Core.Bool.{Bool, true, false, cond, not, ◌&&◌, true≢false}
use mathlib.Core.List.{List, [], ◌∷◌, ◌++◌}
use native.Mathlib.Omega.{arith}
use lib.Dec.{ltb, leb, eqb}
use borrow.Author.Tests.{eqb-true}
use Rattle.sets.specs.Terms.{one_of, one_from, row, within}
use Rattle.sets.specs.Look.{any}
use Rattle.sets.proofs.OneOf.{one_off}
use Rattle.rules.specs.Page.{Table, fits}
use Rattle.rules.specs.Ledger.{Ledger, is_open, is_outside, insiders_of}
use Rattle.rules.specs.declared.Call.{Call}
use Rattle.rules.specs.declared.Role.TheVariants.{Tvm, GuestBase, HartCount, PageCount}
use Rattle.rules.specs.Calls.{Entry, find, calls, opens, moves, entry_of, names, arg, unnamed, size, host_spans, free_spans}
use Rattle.rules.specs.Refusals.{the_one, mapped, any_guest, early, late, lowest_of, refusal, refuses1, refuses2, refuses3, refuses4, refuses5, refuses6, refuses7, refuses8, refuses9, refuses10, refuses11, refuses12, refuses13, refuses14, refuses15}
use Rattle.rules.specs.Effects.{writes, written, table, ledger, value}

-- ---- by call number
-- the call with the number n
abbrev pub call : ℕ → Call → Call
call n c = record { number = n; hart = c.hart; a0 = c.a0; a1 = c.a1; a2 = c.a2; a3 = c.a3; a4 = c.a4; a5 = c.a5 }

-- one proof for each call
pub record ByCall (P : ℕ → Type 0) : Type 0 where
  pub convert : P 1
  pub reclaim : P 2
  pub global-fence : P 3
  pub local_fence : P 4
  pub create : P 5
  pub finalize : P 6
  pub destroy : P 8
  pub region : P 9
  pub pool : P 10
  pub measured : P 11
  pub zeros : P 12
  pub vcpu : P 14
  pub enter : P 15
  pub tvm_fence : P 16
  pub invalidate : P 17
  pub validate : P 18
  pub remove : P 19
  pub leave : P 32
  pub open_ledger : P 33

module _ (P : ℕ → Type 0) where
  abbrev Each : List Entry → Type 0
  Each [] = Unit
  Each (e ∷ es) = P e.number × Each es

  each : (es : List Entry) → Each es → (n : ℕ) → eqb (find n es).number 0 ≡ false → P n
  each [] p n e = absurd (true≢false e)
  each (x ∷ xs) p n e = go (eqb n x.number) refl e (each xs p.1 n)
    where
      go : (b : Bool) → eqb n x.number ≡ b → eqb (cond b x (find n xs)).number 0 ≡ false → (eqb (find n xs).number 0 ≡ false → P n) → P n
      go true q f r = subst P (sym (eqb-true n x.number q)) p.0
      go false q f r = r f

  -- a proof for every number that is a call's
  abbrev pub Every : Type 0
  Every = (n : ℕ) → eqb (entry_of n).number 0 ≡ false → P n

  pub by_call : ByCall P → Every
  unfolding entry_of
  by_call k = each calls (
    k.convert,
    (k.reclaim, (k.global-fence, (k.local_fence, (k.create, (k.finalize, (k.destroy, (k.region, (k.pool, (k.measured, (k.zeros, (k.vcpu, (k.enter, (k.tvm_fence, (k.invalidate, (k.validate, (k.remove, (k.leave, (k.open_ledger, tt)))))))))))))))))),
  )

-- ---- none of the conditions
abbrev AllFalse : List Bool → Type 0
AllFalse [] = Unit
AllFalse (b ∷ bs) = (b ≡ false) × AllFalse bs

clear : (k : ℕ) (bs : List Bool) → lowest_of (suc k) bs ≡ 0 → AllFalse bs
clear k [] e = tt
clear k (true ∷ bs) e = absurd (omega arith)
clear k (false ∷ bs) e = (refl, clear (suc k) bs e)

-- none of the first five, which look at no record
pub record Early (l : Ledger) (t : Table) (c : Call) : Type 0 where
  pub e1 : refuses1 l t c ≡ false
  pub e2 : refuses2 l t c ≡ false
  pub e3 : refuses3 l t c ≡ false
  pub e4 : refuses4 l t c ≡ false
  pub e5 : refuses5 l t c ≡ false

pub not-early : (l : Ledger) (t : Table) (c : Call) → lowest_of 1 (early l t c) ≡ 0 → Early l t c
not-early l t c e =
    let q : AllFalse (early l t c) = clear 0 (early l t c) e in
    record { e1 = q.0; e2 = q.1.0; e3 = q.1.1.0; e4 = q.1.1.1.0; e5 = q.1.1.1.1.0 }

pub record Passed (l : Ledger) (t : Table) (c : Call) : Type 0 where
  pub p1 : refuses1 l t c ≡ false
  pub p2 : refuses2 l t c ≡ false
  pub p3 : refuses3 l t c ≡ false
  pub p4 : refuses4 l t c ≡ false
  pub p5 : refuses5 l t c ≡ false
  pub p6 : refuses6 l t c ≡ false
  pub p7 : refuses7 l t c ≡ false
  pub p8 : refuses8 l t c ≡ false
  pub p9 : refuses9 l t c ≡ false
  pub p10 : refuses10 l t c ≡ false
  pub p11 : refuses11 l t c ≡ false
  pub p12 : refuses12 l t c ≡ false
  pub p13 : refuses13 l t c ≡ false
  pub p14 : refuses14 l t c ≡ false
  pub p15 : refuses15 l t c ≡ false

pub passed : (l : Ledger) (t : Table) (c : Call) → refusal l t c ≡ 0 → Passed l t c
unfolding refusal
passed l t c e =
    let q : AllFalse (early l t c ++ late l t c) = clear 0 (early l t c ++ late l t c) e in
    let r = q.1.1.1.1.1 in
    let u = r.1.1.1.1.1 in
    record {
      p1 = q.0;
      p2 = q.1.0;
      p3 = q.1.1.0;
      p4 = q.1.1.1.0;
      p5 = q.1.1.1.1.0;
      p6 = r.0;
      p7 = r.1.0;
      p8 = r.1.1.0;
      p9 = r.1.1.1.0;
      p10 = r.1.1.1.1.0;
      p11 = u.0;
      p12 = u.1.0;
      p13 = u.1.1.0;
      p14 = u.1.1.1.0;
      p15 = u.1.1.1.1.0;
    }

pub early_of : (l : Ledger) (t : Table) (c : Call) → Passed l t c → Early l t c
early_of l t c p = record { e1 = p.p1; e2 = p.p2; e3 = p.p3; e4 = p.p4; e5 = p.p5 }

-- ---- parts of the long conditions
module _ (l : Ledger) (t : Table) (c : Call) (p : Passed l t c) where
  pub opened-before : (not (opens c) && not (is_open l)) ≡ false
  unfolding refuses3
  opened-before = one_off _ p.p3 1

  pub not_again : (opens c && is_open l) ≡ false
  unfolding refuses3
  not_again = one_off _ p.p3 2

  pub hart_counted : (not (opens c) && leb l.harts c.hart) ≡ false
  unfolding refuses4
  hart_counted = one_off _ p.p4 1

  pub harts_lawful : (opens c && not (within 1 8 (arg HartCount c))) ≡ false
  unfolding refuses4
  harts_lawful = one_off _ p.p4 10

  pub pages_lawful : (opens c && not (within 1 4096 (arg PageCount c) && fits t (arg PageCount c))) ≡ false
  unfolding refuses4
  pages_lawful = one_off _ p.p4 11

  pub guest_ends : (names GuestBase c && ltb 4294967296 (arg GuestBase c + 4096 * size c)) ≡ false
  unfolding refuses5
  guest_ends = one_off _ p.p5 3

  pub as_wanted : (moves c && any_guest l t c (λ g. not (mapped l t c g && eqb (t.page (the_one l t c g)).kind (row c.number 17 7 8)))) ≡ false
  unfolding refuses6
  as_wanted = one_off _ p.p6 2

  pub comes_from_outside : (not (eqb c.number 32) && not (is_outside (l.hart c.hart).place)) ≡ false
  unfolding refuses12
  comes_from_outside = one_off _ p.p12 0

  pub none_inside : (eqb c.number 8 && any (insiders_of l (arg Tvm c)) 8) ≡ false
  unfolding refuses12
  none_inside = one_off _ p.p12 3

-- ---- what opens at a call of a known number: its arguments, conditions and effects
unfoldable pub at_number : Unit {0}
unfolding entry_of names arg unnamed size host_spans free_spans one_of one_from refuses1 refuses2 refuses3 refuses4 refuses5 refuses6 refuses7 refuses8 refuses9 refuses10 refuses11 refuses12 refuses13 refuses14 refuses15 writes written table ledger value
at_number = tt
