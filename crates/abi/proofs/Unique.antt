-- The promise of the C entry leaves one reply, one ledger and one table.
-- Assumes nothing.
use mathlib.Core.Path.{◌≡◌, sym, ◌∙◌, ap}
use Rattle.rules.specs.Step.{error_of, value_of}
use Rattle.rules.proofs.Unique.{only_one}
use Rattle.abi.specs.Promises.{OneReply}

pub one_reply : OneReply
one_reply ws b c x y ws₁ ws₂ b₁ b₂ p q =
    let (a, w, t) = only_one ws b c p.answer q.answer ws₁ ws₂ b₁ b₂ p.called q.called in
    let error : x.error ≡ y.error = p.error ∙ ap error_of a ∙ sym q.error in
    let value : x.value ≡ y.value = p.value ∙ ap value_of a ∙ sym q.value in
    (λ i. record { error = error i; value = value i }, w, t)
