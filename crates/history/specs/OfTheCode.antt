-- Demand 3 of the code: what calls of `ledger`'s `call` leave, one after the other, from words that are all 0 and any lent bytes, is what the histories
-- of Demand3 speak of.
use Rattle.std.specs.Prelude.{replicate, ℕ, ◌≡◌, List, [], ◌∷◌, ◌++◌}
use Rattle.rules.specs.declared.Call.{Call}
use Rattle.rules.specs.Step.{Answer, answers, unopened}
use Rattle.rules.specs.Encoding.{pages_of, state_of, Called}
use Rattle.history.specs.Demand3.{after}

-- the words and bytes after some calls, and what they were told; each call did as its promise says
pub data Ran (b₀ : List ℕ) : List Call → List Answer → List ℕ → List ℕ → Type 0 where
  none_yet : Ran b₀ [] [] (replicate 426 0) b₀
  one_more : (cs : List Call) (xs : List Answer) (ws b : List ℕ) (c : Call) (x : Answer) (ws' b' : List ℕ) → Ran b₀ cs xs ws b → Called ws b c x ws' b'
      → Ran b₀ (cs ++ c ∷ []) (xs ++ x ∷ []) ws' b'

-- Words and bytes show the state that the calls of the history leave, and the answers are its answers: so whatever Demand3 says of a history holds of
-- the words and bytes of the code
pub record AsReckoned (b₀ : List ℕ) (cs : List Call) (xs : List Answer) (ws b : List ℕ) : Type 0 where
  pub state : state_of ws b ≡ after (pages_of b₀) cs
  pub told : xs ≡ answers (unopened (pages_of b₀)) cs

abbrev pub OfTheCode : Type 0
OfTheCode = (b₀ : List ℕ) (cs : List Call) (xs : List Answer) (ws b : List ℕ) → Ran b₀ cs xs ws b → AsReckoned b₀ cs xs ws b
