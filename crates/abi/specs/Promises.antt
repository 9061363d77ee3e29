-- What is proved of the C entry beside its promise.
use Rattle.std.specs.Prelude.{ℕ, ◌≡◌, List}
use Rattle.rules.specs.declared.Call.{Call}
use Rattle.abi.specs.declared.Reply.{Reply}
use Rattle.abi.specs.Replied.{Replied}

-- one reply, one ledger, one table
abbrev pub OneReply : Type 0
OneReply =
    (ws b : List ℕ) (c : Call) (x y : Reply) (ws₁ ws₂ b₁ b₂ : List ℕ) → Replied ws b c x ws₁ b₁ → Replied ws b c y ws₂ b₂
    → (x ≡ y) × (ws₁ ≡ ws₂) × (b₁ ≡ b₂)
