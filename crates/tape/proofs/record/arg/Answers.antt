-- `tape::record::arg` meets its contract: the library's reading of eight bytes is the definition's.
use Prim.Native.Nat.{◌*◌}
use native.Mathlib.Omega.{arith}
use Rattle.tape.proofs.Little.{word_at}
use Rattle.tape.proofs.record.arg.Goals as goal

pub returns : goal.returns
returns c = rw (← c.from-k.ensures, word_at c.args.args.now (c.from-k.result * 8)) (omega arith)
