use mathlib.Core.Path.{◌≡◌, ◌∙◌, ap}
use Prim.Native.Nat.{ℕ}
use Rattle.rules.specs.Tables.{role_at}
use Rattle.door.proofs.Named.{asked_is}
use Rattle.door.proofs.asked.asked.Goals as goal

pub returns : goal.returns
returns c =
    let q = c.args.q in
    let is : (i : ℕ) → role_at c.args.row i ≡ role_at q.number i = λ i. ap (λ (n : ℕ). role_at n i) c.requires in
    asked_is q _ _ _ _ _ _ (c.role-r0.ensures.0 ∙ is 0) (c.role-r1.ensures.0 ∙ is 1)
    (c.role-r2.ensures.0 ∙ is 2) (c.role-r3.ensures.0 ∙ is 3) (c.role-r4.ensures.0 ∙ is 4)
    (c.role-r5.ensures.0 ∙ is 5) c.marked.result (c.marked.ensures ∙ rw (c.spare.ensures, c.roles.ensures))
