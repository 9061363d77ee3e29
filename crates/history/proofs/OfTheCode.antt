-- Any run of the code's calls is a history.
-- Assumes nothing.
use Prim.Native.Nat.{ℕ}
use mathlib.Core.Path.{◌≡◌, refl, sym, ◌∙◌, ap, ap₂}
use mathlib.Core.List.{List, [], ◌∷◌, ◌++◌}
use Rattle.rules.specs.declared.Call.{Call}
use Rattle.rules.specs.Step.{Answer, State, step, run, answers, unopened}
use Rattle.rules.specs.Encoding.{pages_of, state_of}
use Rattle.rules.proofs.Unique.{zeros-unopened}
use Rattle.history.specs.OfTheCode.{Ran, none_yet, one_more, OfTheCode}

-- one call more, at the end
run_last : (s : State) (cs : List Call) (c : Call) → run s (cs ++ c ∷ []) ≡ (step (run s cs) c).after
unfolding run
run_last s [] c = refl
run_last s (d ∷ cs) c = run_last (step s d).after cs c

answers_last : (s : State) (cs : List Call) (c : Call) → answers s (cs ++ c ∷ []) ≡ answers s cs ++ (step (run s cs) c).answer ∷ []
unfolding run answers
answers_last s [] c = refl
answers_last s (d ∷ cs) c = ap (λ (xs : List Answer). (step s d).answer ∷ xs) (answers_last (step s d).after cs c)

module _ (b₀ : List ℕ) where
  state_of_lem : (cs : List Call) (xs : List Answer) (ws b : List ℕ) → Ran b₀ cs xs ws b → (state_of ws b ≡ run (unopened (pages_of b₀)) cs) × (xs ≡ answers (unopened (pages_of b₀)) cs)
  unfolding run answers
  state_of_lem _ _ _ _ none_yet = (λ i. record { ledger = zeros-unopened i; table = pages_of b₀ }, refl)
  state_of_lem _ _ _ _ (one_more cs xs ws b c x ws' b' r p) =
      let (e, f) = state_of_lem cs xs ws b r in (
        p.state ∙ ap (λ (s : State). (step s c).after) e ∙ sym (run_last (unopened (pages_of b₀)) cs c),
        ap₂ (λ (ys : List Answer) (y : Answer). ys ++ y ∷ []) f (p.answer ∙ ap (λ (s : State). (step s c).answer) e) ∙ sym (answers_last (unopened (pages_of b₀)) cs c),
      )

pub of_the_code : OfTheCode
of_the_code b₀ cs xs ws b r =
    let (e, f) = state_of_lem b₀ cs xs ws b r in
    record { state = e; told = f }
