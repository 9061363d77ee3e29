-- A call is refused with n exactly when condition n holds and none with a lower number does; it is accepted exactly when none holds.
-- One induction over any list of conditions: it does not change when a refusal is added.
-- Assumes nothing.
use Prim.Native.Nat.{ℕ, zero, suc, ◌+◌, ◌≤◌, ◌<◌}
use mathlib.Core.Bool.{Bool, true, false, true≢false, false≢true}
use mathlib.Core.List.{List, [], ◌∷◌, ◌++◌}
use mathlib.Core.Logic.{◌↔◌}
use mathlib.Core.Path.{◌≡◌, refl, ◌∙◌, ap}
use native.Mathlib.Omega.{arith}
use lib.ListN.{get_or}
use Rattle.rules.specs.Calls.{Call}
use Rattle.rules.specs.Refusals.{early, late, lowest_of, refusal}
use Rattle.rules.specs.Effects.{value}
use Rattle.rules.specs.Step.{Accepted, Refused, State, settle, step}
use Rattle.rules.specs.Promises.{Exactly}

-- the number given is 0, or is one from k on
lowest_from : (k : ℕ) (bs : List Bool) → lowest_of k bs ≡ 0 → (i : ℕ) → 0 < k → get_or bs i false ≡ false
lowest_from k [] e i h = refl
lowest_from k (true ∷ bs) e i h = absurd (omega arith)
lowest_from k (false ∷ bs) e zero h = refl
lowest_from k (false ∷ bs) e (suc i) h = lowest_from (suc k) bs e i (omega arith)

none : (k : ℕ) (bs : List Bool) → ((i : ℕ) → get_or bs i false ≡ false) → lowest_of k bs ≡ 0
none k [] h = refl
none k (true ∷ bs) h = absurd (true≢false (h 0))
none k (false ∷ bs) h = none (suc k) bs (λ i. h (suc i))

-- the number k + i is given: condition i holds, and none before it
given : (k : ℕ) (bs : List Bool) (i : ℕ) → lowest_of k bs ≡ k + i → 0 < k → (get_or bs i false ≡ true) × ((j : ℕ) → j < i → get_or bs j false ≡ false)
given k [] i e h = absurd (omega arith)
given k (true ∷ bs) zero e h = (refl, λ j l. absurd (omega arith))
given k (true ∷ bs) (suc i) e h = absurd (omega arith)
given k (false ∷ bs) zero e h = absurd (late_one (suc k) bs k (omega arith) (omega arith) (omega arith))
  where
    late_one : (m : ℕ) (bs : List Bool) (k : ℕ) → lowest_of m bs ≡ k → k < m → 0 < k → ⊥
    late_one m [] k e l h = omega arith
    late_one m (true ∷ bs) k e l h = omega arith
    late_one m (false ∷ bs) k e l h = late_one (suc m) bs k e (omega arith) h
given k (false ∷ bs) (suc i) e h =
    let r = given (suc k) bs i (e ∙ omega arith) (omega arith) in
    (r.0, λ j l. before r j l)
  where
    before : (get_or bs i false ≡ true) × ((j : ℕ) → j < i → get_or bs j false ≡ false) → (j : ℕ) → j < suc i → get_or (false ∷ bs) j false ≡ false
    before r zero l = refl
    before r (suc j) l = r.1 j (omega arith)

back : (k : ℕ) (bs : List Bool) (i : ℕ) → get_or bs i false ≡ true → ((j : ℕ) → j < i → get_or bs j false ≡ false) → lowest_of k bs ≡ k + i
back k [] i e h = absurd (false≢true e)
back k (true ∷ bs) zero e h = omega arith
back k (true ∷ bs) (suc i) e h = absurd (true≢false (h 0 (omega arith)))
back k (false ∷ bs) zero e h = absurd (false≢true e)
back k (false ∷ bs) (suc i) e h = back (suc k) bs i e (λ j l. h (suc j) (omega arith)) ∙ omega arith

-- what the answer says of the number
refused_is : (k : ℕ) (s : State) (c : Call) (n : ℕ) → 1 ≤ n → ((settle k s c).answer ≡ Refused n) ↔ (k ≡ n)
refused_is zero s c n h = (λ e. let z : ◌≡◌ {A = ℕ} 0 1 = cc in absurd (omega arith), λ e. absurd (omega arith))
refused_is (suc k) s c n h = (λ e. cc, λ e. ap Refused e)

accepted-is : (k : ℕ) (s : State) (c : Call) → ((settle k s c).answer ≡ Accepted (value s.ledger s.table c)) ↔ (k ≡ 0)
accepted-is zero s c = (λ e. refl, λ e. refl)
accepted-is (suc k) s c = (λ e. let z : ◌≡◌ {A = ℕ} 0 1 = cc in absurd (omega arith), λ e. absurd (omega arith))

-- of any list of conditions
module _ (bs : List Bool) where
  all_off : lowest_of 1 bs ≡ 0 → (m : ℕ) → get_or (false ∷ bs) m false ≡ false
  all_off e zero = refl
  all_off e (suc m) = lowest_from 1 bs e m (omega arith)

  from_one : (n : ℕ) → 1 ≤ n → (lowest_of 1 bs ≡ n) ↔ ((get_or (false ∷ bs) n false ≡ true) × ((m : ℕ) → m < n → get_or (false ∷ bs) m false ≡ false))
  from_one zero h = absurd (omega arith)
  from_one (suc n) h = (to, λ p. back 1 bs n p.0 (λ j l. p.1 (suc j) (omega arith)) ∙ omega arith)
    where
      to : lowest_of 1 bs ≡ suc n → (get_or bs n false ≡ true) × ((m : ℕ) → m < suc n → get_or (false ∷ bs) m false ≡ false)
      to e = let r = given 1 bs n (e ∙ omega arith) (omega arith) in (r.0, λ m l. off r m l)
        where
          off : (get_or bs n false ≡ true) × ((j : ℕ) → j < n → get_or bs j false ≡ false) → (m : ℕ) → m < suc n → get_or (false ∷ bs) m false ≡ false
          off r zero l = refl
          off r (suc m) l = r.1 m (omega arith)

both : {A B C : Type 0} → A ↔ B → B ↔ C → A ↔ C
both f g = (λ a. g.0 (f.0 a), λ c. f.1 (g.1 c))

pub exactly : Exactly
unfolding step refusal
exactly s c =
    let bs = early s.ledger s.table c ++ late s.ledger s.table c in (
      λ n h. both (refused_is (lowest_of 1 bs) s c n h) (from_one bs n h),
      both (accepted-is (lowest_of 1 bs) s c) (all_off bs, λ f. none 1 bs (λ i. f (suc i))),
    )
