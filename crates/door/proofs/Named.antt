-- What the table of roles makes of a call's six arguments is what the definitions look up.
-- Assumes nothing.
use Prim.Native.Nat.{ℕ, zero, suc, ◌*◌, ◌/◌, ◌≤◌, ◌<◌}
use mathlib.Core.Path.{◌≡◌, refl, sym, ◌∙◌, ap}
use mathlib.Core.Bool.{Bool, true, false, cond, ◌&&◌, ◌||◌, true≢false}
use mathlib.Core.List.{List, [], ◌∷◌, map}
use native.Mathlib.Omega.{arith}
use lib.Dec.{ltb, eqb}
use lib.ListN.{length, get_or, drop, set, length-set}
use lib.Seq.{get_or-set_same, get_or-set_other}
use borrow.Author.Tests.{eqb-true, eqb-false, ne_eqb}
use Rattle.sets.specs.Terms.{one_of, one_from, any_in}
use Rattle.sets.specs.Look.{any}
use Rattle.sets.specs.Set.{member, with, without}
use Rattle.sets.proofs.Bools.{by_test, iff}
use Rattle.sets.proofs.Laws.{member-with, member-without, member_none, member_past}
use Rattle.sets.proofs.Looks.{any_off, any_ext}
use Rattle.sets.proofs.OneOf.{one_off, one_none}
use Rattle.rules.specs.declared.Role.{Role}
use Rattle.rules.specs.declared.Role.TheVariants.{Tvm, Vcpu, HostBase, FreeBase, DirectoryBase, UnitCount, UnitType, GuestBase, ByteLength, HartCount, PageCount}
use Rattle.rules.specs.declared.Call.{Call}
use Rattle.rules.specs.Calls.{code, pick, entry_of, names, arg, unnamed, unit, size}
use Rattle.rules.specs.Tables.{role_at}
use Rattle.rules.proofs.CallTable.{few_named}
use Rattle.door.specs.Asked.{Asked, unnamed_by, roles_of}
use Rattle.door.specs.declared.extent.Extent.TheVariants.{Bytes, Units, OnePage}
use Rattle.door.specs.Extents.{extent_of, long_by}

-- the numbers of the roles are 1 to 11
pub code_in : (r : Role) → (0 < code r) × (code r < 12)
code_in Tvm = (omega arith, omega arith)
code_in Vcpu = (omega arith, omega arith)
code_in HostBase = (omega arith, omega arith)
code_in FreeBase = (omega arith, omega arith)
code_in DirectoryBase = (omega arith, omega arith)
code_in UnitCount = (omega arith, omega arith)
code_in UnitType = (omega arith, omega arith)
code_in GuestBase = (omega arith, omega arith)
code_in ByteLength = (omega arith, omega arith)
code_in HartCount = (omega arith, omega arith)
code_in PageCount = (omega arith, omega arith)

not_zero : (r : Role) → eqb (code r) 0 ≡ false
not_zero r = ne_eqb (code r) 0 (λ e. let h = (code_in r).0 in omega arith)

-- the role of argument i, of a list of roles
abbrev pub role_of : List Role → ℕ → ℕ
role_of xs i = get_or (map code xs) i 0

pub role_small : (xs : List Role) (i : ℕ) → role_of xs i < 12
role_small [] i = omega arith
role_small (x ∷ xs) zero = (code_in x).1
role_small (x ∷ xs) (suc i) = role_small xs i

-- ---- values: the first argument whose role is k
abbrev pub value_by : ℕ → (ℕ → ℕ) → List ℕ → ℕ
value_by k f [] = 0
value_by k f (v ∷ vs) = cond (eqb k (f 0)) v (value_by k (λ i. f (suc i)) vs)

pub pick_is : (r : Role) (xs : List Role) (vs : List ℕ) → value_by (code r) (role_of xs) vs ≡ pick r xs vs
pick_is r [] [] = refl
pick_is r [] (v ∷ vs) = rw (not_zero r) (pick_is r [] vs)
pick_is r (x ∷ xs) [] = refl
pick_is r (x ∷ xs) (v ∷ vs) = ap (cond (eqb (code r) (code x)) v) (pick_is r xs vs)

-- ---- names
at_is : (r : Role) (xs : List Role) (i : ℕ) → get_or (map (λ x. eqb (code r) (code x)) xs) i false ≡ eqb (code r) (role_of xs i)
at_is r [] i = sym (not_zero r)
at_is r (x ∷ xs) zero = refl
at_is r (x ∷ xs) (suc i) = at_is r xs i

-- one of some tests holds exactly where one of the first n does, if there are no more
one_any : (bs : List Bool) (n : ℕ) → length bs ≤ n → one_of bs ≡ any (λ i. get_or bs i false) n
one_any bs n h = by_test (one_of bs) (λ e. rw e (sym (some e))) (λ e. rw e (sym (any_off (λ i. get_or bs i false) n (λ i l. one_off bs e i))))
  where
    some : one_of bs ≡ true → any (λ i. get_or bs i false) n ≡ true
    some e = by_test (any (λ i. get_or bs i false) n) (λ a. a) (λ a. absurd (true≢false (sym e ∙ one_none bs (none a))))
      where
        none : any (λ i. get_or bs i false) n ≡ false → (k : ℕ) → get_or bs k false ≡ false
        none a k = elim (native.Mathlib.Decide.dec_lt k n) [ yes l ↦ Rattle.sets.proofs.Looks.any_at (λ i. get_or bs i false) n k a l | no l ↦ lib.ListN.get_or-eq_default bs false {n = k} (omega arith) ]

pub names-is : (r : Role) (xs : List Role) → length xs ≤ 6 → any (λ i. eqb (code r) (role_of xs i)) 6 ≡ any_in (λ x. eqb (code r) (code x)) xs
names-is r xs h =
    sym (one_any (map (λ x. eqb (code r) (code x)) xs) 6 (omega (arith, lib.ListN.length-map xs (λ x. eqb (code r) (code x))))
    ∙ any_ext _ _ 6 (λ i l. at_is r xs i))

-- a set of the roles of the first arguments
or_comm : (a b : Bool) → (a || b) ≡ (b || a)
or_comm true true = refl
or_comm true false = refl
or_comm false true = refl
or_comm false false = refl

pub with_next : (k s : ℕ) (f : ℕ → ℕ) (i : ℕ) → member k s ≡ any (λ j. eqb k (f j)) i → member k (with s (f i)) ≡ any (λ j. eqb k (f j)) (suc i)
unfolding any
with_next k s f i e = member-with k s (f i) ∙ or_comm (eqb k (f i)) (member k s) ∙ ap (λ (b : Bool). b || eqb k (f i)) e

-- ---- spare arguments
abbrev pub spares : (ℕ → ℕ) → List ℕ → List Bool
spares f [] = []
spares f (v ∷ vs) = (eqb (f 0) 0 && ltb 0 v) ∷ spares (λ i. f (suc i)) vs

skip : (bs : List Bool) → one_of (false ∷ bs) ≡ one_of bs
unfolding one_of one_from
skip [] = refl
skip (b ∷ bs) = refl

pub spares_are : (xs : List Role) (vs : List ℕ) → one_of (spares (role_of xs) vs) ≡ any_in (ltb 0) (drop (length xs) vs)
spares_are [] vs = ap one_of (all vs)
  where
    all : (vs : List ℕ) → spares (role_of []) vs ≡ map (ltb 0) vs
    all [] = refl
    all (v ∷ vs) = ap (λ (bs : List Bool). ltb 0 v ∷ bs) (all vs)
spares_are (x ∷ xs) [] = refl
spares_are (x ∷ xs) (v ∷ vs) = rw (not_zero x) (skip (spares (role_of xs) vs) ∙ spares_are xs vs)

-- one store, read
pub get_set : (t : List ℕ) (i v j : ℕ) → i < length t → get_or (set t i v) j 0 ≡ cond (eqb j i) v (get_or t j 0)
get_set t i v j h = by_test (eqb j i) (λ e. rw (e, eqb-true j i e) (get_or-set_same t i v 0 h)) (λ e. rw e (get_or-set_other t i j v 0 (eqb-false j i e)))

pub role_at_lem : (n i : ℕ) → role_at n i < 12
unfolding role_at
role_at_lem n i = role_small (entry_of n).arguments i

-- ---- the twelve words put together
abbrev zeros : List ℕ
zeros = 0 ∷ 0 ∷ 0 ∷ 0 ∷ 0 ∷ 0 ∷ 0 ∷ 0 ∷ 0 ∷ 0 ∷ 0 ∷ 0 ∷ []

all_zero : List ℕ → Bool
all_zero [] = true
all_zero (x ∷ xs) = eqb x 0 && all_zero xs

zeros_at : (k : ℕ) → get_or zeros k 0 ≡ 0
unfolding all_zero
zeros_at k = go zeros refl k
  where
    go : (xs : List ℕ) → all_zero xs ≡ true → (k : ℕ) → get_or xs k 0 ≡ 0
    go [] e k = refl
    go (x ∷ xs) e zero = eqb-true x 0 (Rattle.sets.proofs.Bools.and_left (eqb x 0) (all_zero xs) e)
    go (x ∷ xs) e (suc k) = go xs (Rattle.sets.proofs.Bools.and_right (eqb x 0) (all_zero xs) e) k

module _ (c : Call) (r0 r1 r2 r3 r4 r5 : ℕ) (e0 : r0 ≡ role_at c.number 0) (e1 : r1 ≡ role_at c.number 1) (e2 : r2 ≡ role_at c.number 2)
    (e3 : r3 ≡ role_at c.number 3) (e4 : r4 ≡ role_at c.number 4) (e5 : r5 ≡ role_at c.number 5) where
  xs : List Role
  xs = (entry_of c.number).arguments

  filled : List ℕ
  filled = set (set (set (set (set (set zeros r5 c.a5) r4 c.a4) r3 c.a3) r2 c.a2) r1 c.a1) r0 c.a0

  small : (i : ℕ) (r : ℕ) → r ≡ role_at c.number i → r < 12
  small i r e = rw e (role_at_lem c.number i)

  filled_at : (k : ℕ) → get_or filled k 0
      ≡ cond (eqb k r0) c.a0 (cond (eqb k r1) c.a1 (cond (eqb k r2) c.a2 (cond (eqb k r3) c.a3 (cond (eqb k r4) c.a4 (cond (eqb k r5) c.a5 0)))))
  unfolding filled
  filled_at k =
      let t5 = set zeros r5 c.a5 in
      let t4 = set t5 r4 c.a4 in
      let t3 = set t4 r3 c.a3 in
      let t2 = set t3 r2 c.a2 in
      let t1 = set t2 r1 c.a1 in
      let l5 : length t5 ≡ 12 = simp length-set in
      let l4 : length t4 ≡ 12 = simp length-set in
      let l3 : length t3 ≡ 12 = simp length-set in
      let l2 : length t2 ≡ 12 = simp length-set in
      let l1 : length t1 ≡ 12 = simp length-set in
      rw (
        get_set t1 r0 c.a0 k (omega (arith, small 0 r0 e0)),
        get_set t2 r1 c.a1 k (omega (arith, small 1 r1 e1)),
        get_set t3 r2 c.a2 k (omega (arith, small 2 r2 e2)),
        get_set t4 r3 c.a3 k (omega (arith, small 3 r3 e3)),
        get_set t5 r4 c.a4 k (omega (arith, small 4 r4 e4)),
        get_set zeros r5 c.a5 k (small 5 r5 e5),
        zeros_at k,
      )

  value-is : (r : Role) → get_or filled (code r) 0 ≡ arg r c
  unfolding role_at arg xs
  value-is r = filled_at (code r) ∙ rw (e0, e1, e2, e3, e4, e5) (pick_is r xs (c.a0 ∷ c.a1 ∷ c.a2 ∷ c.a3 ∷ c.a4 ∷ c.a5 ∷ []))

  in_roles : (r : Role) → member (code r) (roles_of r0 r1 r2 r3 r4 r5) ≡ names r c
  unfolding role_at names xs any
  in_roles r =
      rw (e0, e1, e2, e3, e4, e5)
      (with_next (code r) _ (role_of xs) 5 (with_next (code r) _ (role_of xs) 4 (with_next (code r) _ (role_of xs) 3 (with_next (code r) _ (role_of xs) 2
      (with_next (code r) _ (role_of xs) 1 (with_next (code r) 0 (role_of xs) 0 (member_none (code r)))))))
      ∙ names-is r xs (few_named c.number))

  spare-is : unnamed_by c r0 r1 r2 r3 r4 r5 ≡ unnamed c
  unfolding role_at unnamed xs
  spare-is = rw (e0, e1, e2, e3, e4, e5) (spares_are xs (c.a0 ∷ c.a1 ∷ c.a2 ∷ c.a3 ∷ c.a4 ∷ c.a5 ∷ []))

  pub asked_is : (s : ℕ) → s ≡ cond (unnamed_by c r0 r1 r2 r3 r4 r5) (with (roles_of r0 r1 r2 r3 r4 r5) 0) (without (roles_of r0 r1 r2 r3 r4 r5) 0)
      → Asked c (set (set (set (set (set (set (set zeros r5 c.a5) r4 c.a4) r3 c.a3) r2 c.a2) r1 c.a1) r0 c.a0) 0 s)
  unfolding filled
  asked_is s e = record {
    size = long;
    value = λ r. get_set filled 0 s (code r) (omega (arith, filled_long)) ∙ rw (not_zero r) (value-is r);
    named = λ r. rw (get_set filled 0 s 0 (omega (arith, filled_long)), e) (kept r (unnamed_by c r0 r1 r2 r3 r4 r5) ∙ in_roles r);
    spare = rw (get_set filled 0 s 0 (omega (arith, filled_long)), e) (zero_is (unnamed_by c r0 r1 r2 r3 r4 r5) ∙ spare-is);
  }
    where
      filled_long : length filled ≡ 12
      filled_long = simp length-set

      long : length (set filled 0 s) ≡ 12
      long = length-set filled 0 s ∙ filled_long

      R : ℕ
      R = roles_of r0 r1 r2 r3 r4 r5

      kept : (r : Role) (b : Bool) → member (code r) (cond b (with R 0) (without R 0)) ≡ member (code r) R
      kept r true = member-with (code r) R 0 ∙ rw (not_zero r)
      kept r false = member-without (code r) R 0 ∙ rw (not_zero r)

      zero_is : (b : Bool) → member 0 (cond b (with R 0) (without R 0)) ≡ b
      zero_is true = member-with 0 R 0
      zero_is false = member-without 0 R 0

-- ---- sizes
pub long_is : (c : Call) → ltb 4096 (size c) ≡ long_by (extent_of c)
unfolding size
long_is c = go (names ByteLength c) (names UnitCount c)
  where
    go : (m n : Bool) → ltb 4096 (cond m (arg ByteLength c / 4096) (cond n (arg UnitCount c * unit c) 1))
        ≡ long_by (cond m (Bytes (arg ByteLength c)) (cond n (Units (arg UnitCount c) (arg UnitType c)) OnePage))
    go true n = refl
    go false true = refl
    go false false = refl

-- no digit past the last
pub made_past : (s v : ℕ) → s < 256 → 8 ≤ v → member v s ≡ false
made_past s v h l = member_past 8 v s h l
