-- What is proved of the definitions, as statements. The words quoted are those of the three demands.
use Rattle.std.specs.Prelude.{◌↔◌, replicate, ℕ, ◌+◌, ◌*◌, ◌≤◌, ◌<◌, ◌^◌, ◌≡◌, Bool, true, false, List, [], ◌∷◌, map, length, get_or, Result}
use Rattle.rules.specs.Page.{Table}
use Rattle.rules.specs.Ledger.{Ledger, opened}
use Rattle.rules.specs.Calls.{Call}
use Rattle.rules.specs.Refusals.{refuses1, refuses2, refuses3, refuses4, refuses5, refuses6, refuses7, refuses8, refuses9, refuses10, refuses11, refuses12, refuses13, refuses14, refuses15}
use Rattle.rules.specs.Effects.{value, writes}
use Rattle.rules.specs.Step.{Answer, Accepted, Refused, State, step}
use Rattle.rules.specs.Answers.{Refusal, answer_of}
use Rattle.rules.specs.Encoding.{view, pages_of, Numbers, Called}
use Rattle.rules.specs.Seatings.{seatings, played, wanted}

-- condition n of document 01's table, from 1 on
abbrev pub condition : State → Call → ℕ → Bool
condition s c n =
    let at : (Ledger → Table → Call → Bool) → Bool = λ refuses. refuses s.ledger s.table c in
    get_or (false ∷ at refuses1 ∷ at refuses2 ∷ at refuses3 ∷ at refuses4 ∷ at refuses5 ∷ at refuses6 ∷ at refuses7 ∷ at refuses8 ∷ at refuses9 ∷ at refuses10
    ∷ at refuses11 ∷ at refuses12 ∷ at refuses13 ∷ at refuses14 ∷ at refuses15 ∷ []) n false

-- Demand 2: "Each refusal comes exactly when its condition holds and none with a lower number does." A call is accepted exactly when none holds.
abbrev pub Exactly : Type 0
Exactly =
    (s : State) (c : Call)
    → ((n : ℕ) → 1 ≤ n → ((step s c).answer ≡ Refused n) ↔ ((condition s c n ≡ true) × ((m : ℕ) → m < n → condition s c m ≡ false)))
    × (((step s c).answer ≡ Accepted (value s.ledger s.table c)) ↔ ((m : ℕ) → condition s c m ≡ false))

-- Demand 1: "A refused call changes no record, tracker or byte." Of the typed state, and of the lent words and bytes.
abbrev pub RefusedChangesNothing : Type 0
RefusedChangesNothing = (s : State) (c : Call) (n : ℕ) → (step s c).answer ≡ Refused n → (step s c).after ≡ s

abbrev pub RefusedWritesNothing : Type 0
RefusedWritesNothing =
    (ws b : List ℕ) (c : Call) (n : ℕ) (ws' b' : List ℕ) → Numbers 426 (2 ^ 32) ws → Numbers (length b) 256 b → Called ws b c (Refused n) ws' b'
    → (ws' ≡ ws) × (b' ≡ b)

-- An accepted call writes the records that it names and no others: `writes` says which those are, and every other keeps its eight bytes.
abbrev pub OthersKept : Type 0
OthersKept =
    (ws b : List ℕ) (c : Call) (v : ℕ) (ws' b' : List ℕ) → Numbers (length b) 256 b → Called ws b c (Accepted v) ws' b'
    → (i : ℕ) → writes (view ws) (pages_of b) c i ≡ false → (x : ℕ) → x < 8 → get_or b' (8 * i + x) 0 ≡ get_or b (8 * i + x) 0

-- The encoding loses nothing, garbage included; words that are all 0 show a ledger that is not open
abbrev pub WordsKept : Type 0
WordsKept = (a b : List ℕ) → Numbers 426 (2 ^ 32) a → Numbers 426 (2 ^ 32) b → view a ≡ view b → a ≡ b

abbrev pub BytesKept : Type 0
BytesKept = (m n : ℕ) (a b : List ℕ) → Numbers m 256 a → Numbers n 256 b → pages_of a ≡ pages_of b → a ≡ b

abbrev pub ZerosUnopened : Type 0
ZerosUnopened = view (replicate 426 0) ≡ opened 0 0

-- Demand 2: the "promise leaves one answer, one ledger, one table"
abbrev pub OnlyOne : Type 0
OnlyOne =
    (ws b : List ℕ) (c : Call) (x y : Answer) (ws₁ ws₂ b₁ b₂ : List ℕ) → Called ws b c x ws₁ b₁ → Called ws b c y ws₂ b₂
    → (x ≡ y) × (ws₁ ≡ ws₂) × (b₁ ≡ b₂)

-- The code answers a result, which stands for one answer. No two stand for the same, so the promise leaves one result too
abbrev pub AnswersKept : Type 0
AnswersKept = (x y : Result ℕ Refusal) → answer_of x ≡ answer_of y → x ≡ y

abbrev pub OneResult : Type 0
OneResult =
    (ws b : List ℕ) (c : Call) (x y : Result ℕ Refusal) (ws₁ ws₂ b₁ b₂ : List ℕ)
    → Called ws b c (answer_of x) ws₁ b₁ → Called ws b c (answer_of y) ws₂ b₂ → (x ≡ y) × (ws₁ ≡ ws₂) × (b₁ ≡ b₂)

-- Document 01's seatings S1 to S8 and S13 to S16, and S10 and S11, as a single table under a single statement
abbrev pub Seated : Type 0
Seated = map played seatings ≡ map wanted seatings
