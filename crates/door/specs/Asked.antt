-- What the twelve words of the door say.
use Rattle.std.specs.Prelude.{ℕ, Bool, cond, Option, Some, None, ◌&&◌, List, [], ◌∷◌, ◌≡◌, length, get_or, ltb, eqb}
use Rattle.sets.specs.Terms.{one_of}
use Rattle.sets.specs.Set.{member, with}
use Rattle.rules.specs.declared.Call.{Call}
use Rattle.rules.specs.declared.Role.{Role}
use Rattle.rules.specs.declared.Role.TheVariants.{Vcpu, UnitCount, UnitType, ByteLength, HartCount, PageCount}
use Rattle.rules.specs.Calls.{code, names, arg, unnamed}

-- some argument whose role is 0 is not 0
abbrev pub unnamed_by : Call → ℕ → ℕ → ℕ → ℕ → ℕ → ℕ → Bool
unnamed_by c r0 r1 r2 r3 r4 r5 =
    one_of
    ((eqb r0 0 && ltb 0 c.a0)
    ∷ (eqb r1 0 && ltb 0 c.a1)
    ∷ (eqb r2 0 && ltb 0 c.a2)
    ∷ (eqb r3 0 && ltb 0 c.a3)
    ∷ (eqb r4 0 && ltb 0 c.a4)
    ∷ (eqb r5 0 && ltb 0 c.a5)
    ∷ [])

-- the set of six roles
abbrev pub roles_of : ℕ → ℕ → ℕ → ℕ → ℕ → ℕ → ℕ
roles_of r0 r1 r2 r3 r4 r5 = with (with (with (with (with (with 0 r0) r1) r2) r3) r4) r5

-- the value of the argument, where the call names one
abbrev pub named : Role → Call → Option ℕ
named r c = cond (names r c) (Some (arg r c)) None

-- what 4 looks at besides the hart: whether an argument that is not named is not 0, and whether arguments of these roles are named
abbrev pub for4 : Call → List Bool
for4 c = unnamed c ∷ names Vcpu c ∷ names UnitCount c ∷ names UnitType c ∷ names ByteLength c ∷ names HartCount c ∷ names PageCount c ∷ []

abbrev pub names_for_4 : Call → Bool
names_for_4 c = one_of (for4 c)

pub record Asked (c : Call) (a : List ℕ) : Type 0 where
  pub size : length a ≡ 12
  pub value : (r : Role) → get_or a (code r) 0 ≡ arg r c
  pub named : (r : Role) → member (code r) (get_or a 0 0) ≡ names r c
  pub spare : member 0 (get_or a 0 0) ≡ unnamed c
