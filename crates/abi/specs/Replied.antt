-- The promise of the C entry: that of a call, its answer given by document 01's error and value.
use Rattle.std.specs.Prelude.{ℕ, ◌≡◌, List}
use Rattle.rules.specs.declared.Call.{Call}
use Rattle.rules.specs.Step.{Answer, error_of, value_of}
use Rattle.rules.specs.Encoding.{Called}
use Rattle.abi.specs.declared.Reply.{Reply}

pub record Replied (ws b : List ℕ) (c : Call) (r : Reply) (ws' b' : List ℕ) : Type 0 where
  pub answer : Answer
  pub called : Called ws b c answer ws' b'
  pub error : r.error ≡ error_of answer
  pub value : r.value ≡ value_of answer
