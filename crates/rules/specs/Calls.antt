-- Document 01, "Calls": what each argument of a call is, and the phases in which the call is lawful.
use Rattle.std.specs.Prelude.{ℕ, ◌-◌, ◌*◌, ◌/◌, Bool, false, cond, ◌||◌, List, [], ◌∷◌, ltb, eqb, length, drop}
use Rattle.sets.specs.Terms.{any_in}
pub use Rattle.rules.specs.declared.Call.{Call}
pub use Rattle.rules.specs.declared.Role.{Role}
pub use Rattle.rules.specs.declared.Role.TheVariants.{Tvm, Vcpu, HostBase, FreeBase, DirectoryBase, UnitCount, UnitType, GuestBase, ByteLength, HartCount, PageCount}

-- a number for each role, by which they are told apart
abbrev pub code : Role → ℕ
code Tvm = 1
code Vcpu = 2
code HostBase = 3
code FreeBase = 4
code DirectoryBase = 5
code UnitCount = 6
code UnitType = 7
code GuestBase = 8
code ByteLength = 9
code HartCount = 10
code PageCount = 11

-- "I is initializing, R runnable": the phases in which a call on a TVM is lawful; the other calls have none
pub data Phases : Type 0 where
  no_phase : Phases
  I : Phases
  R : Phases
  IR : Phases

abbrev pub allows : Phases → ℕ → Bool
allows no_phase p = false
allows I p = eqb p 1
allows R p = eqb p 2
allows IR p = eqb p 1 || eqb p 2

-- the table of calls
pub record Entry : Type 0 where
  pub number : ℕ
  pub arguments : List Role
  pub phases : Phases

abbrev pub entry : ℕ → List Role → Phases → Entry
entry n a p = record { number = n; arguments = a; phases = p }

abbrev pub calls : List Entry
calls =
    entry 1 (HostBase ∷ UnitCount ∷ []) no_phase
    ∷ entry 2 (FreeBase ∷ UnitCount ∷ []) no_phase
    ∷ entry 3 [] no_phase
    ∷ entry 4 [] no_phase
    ∷ entry 5 (DirectoryBase ∷ FreeBase ∷ []) no_phase
    ∷ entry 6 (Tvm ∷ []) I
    ∷ entry 8 (Tvm ∷ []) IR
    ∷ entry 9 (Tvm ∷ GuestBase ∷ ByteLength ∷ []) I
    ∷ entry 10 (Tvm ∷ FreeBase ∷ UnitCount ∷ []) IR
    ∷ entry 11 (Tvm ∷ HostBase ∷ FreeBase ∷ UnitType ∷ UnitCount ∷ GuestBase ∷ []) I
    ∷ entry 12 (Tvm ∷ FreeBase ∷ UnitType ∷ UnitCount ∷ GuestBase ∷ []) R
    ∷ entry 14 (Tvm ∷ Vcpu ∷ FreeBase ∷ []) I
    ∷ entry 15 (Tvm ∷ Vcpu ∷ []) R
    ∷ entry 16 (Tvm ∷ []) R
    ∷ entry 17 (Tvm ∷ GuestBase ∷ ByteLength ∷ []) R
    ∷ entry 18 (Tvm ∷ GuestBase ∷ ByteLength ∷ []) R
    ∷ entry 19 (Tvm ∷ GuestBase ∷ ByteLength ∷ []) R
    ∷ entry 32 [] no_phase
    ∷ entry 33 (HartCount ∷ PageCount ∷ []) no_phase
    ∷ []

abbrev pub find : ℕ → List Entry → Entry
find n [] = entry 0 [] no_phase
find n (e ∷ es) = cond (eqb n e.number) e (find n es)

-- the entry of a call number; number 0 and no arguments where the table has none
unfoldable pub entry_of : ℕ → Entry
entry_of n = find n calls

-- the call names an argument of the role, and its value; 0 where it names none
unfoldable pub names : Role → Call → Bool
names r c = any_in (λ x. eqb (code r) (code x)) (entry_of c.number).arguments

abbrev pub pick : Role → List Role → List ℕ → ℕ
pick r [] vs = 0
pick r (x ∷ xs) [] = 0
pick r (x ∷ xs) (v ∷ vs) = cond (eqb (code r) (code x)) v (pick r xs vs)

abbrev pub values : Call → List ℕ
values c = c.a0 ∷ c.a1 ∷ c.a2 ∷ c.a3 ∷ c.a4 ∷ c.a5 ∷ []

unfoldable pub arg : Role → Call → ℕ
arg r c = pick r (entry_of c.number).arguments (values c)

-- "unnamed ones must be 0": some other argument is not
unfoldable pub unnamed : Call → Bool
unnamed c = any_in (ltb 0) (drop (length (entry_of c.number).arguments) (values c))

-- open; 17 to 19
abbrev pub opens : Call → Bool
opens c = eqb c.number 33

abbrev pub moves : Call → Bool
moves c = eqb c.number 17 || eqb c.number 18 || eqb c.number 19

-- "Type is 0 (4 KiB) or 1 (2 MiB); count is in units of the type": how many pages the call's range has, one where none is named
abbrev pub unit : Call → ℕ
unit c = cond (eqb (arg UnitType c) 1) 512 1

unfoldable pub size : Call → ℕ
size c = cond (names ByteLength c) (arg ByteLength c / 4096) (cond (names UnitCount c) (arg UnitCount c * unit c) 1)

abbrev pub first_guest : Call → ℕ
first_guest c = arg GuestBase c / 4096

-- "memory 1 to 4,096 pages, the first at 0x80000000"
abbrev pub memory : ℕ
memory = 0x80000000

abbrev pub index : ℕ → ℕ
index address = (address - memory) / 4096

-- Pages that a call names: the address, how many, and of how many pages the address is a multiple. Ordinary ones, and free ones.
pub record Span : Type 0 where
  pub base : ℕ
  pub pages : ℕ
  pub align : ℕ

abbrev pub span : ℕ → ℕ → ℕ → Span
span b n a = record { base = b; pages = n; align = a }

unfoldable pub host_spans : Call → List Span
host_spans c = cond (names HostBase c) (span (arg HostBase c) (size c) 1 ∷ []) []

unfoldable pub free_spans : Call → List Span
free_spans c =
    let rest = cond (names FreeBase c) (span (arg FreeBase c) (size c) (unit c) ∷ []) [] in
    cond (names DirectoryBase c) (span (arg DirectoryBase c) 4 4 ∷ rest) rest
