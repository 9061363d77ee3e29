-- The calls of the table by name, and their numbers.
use Rattle.std.specs.Prelude.{ℕ}
use Rattle.rules.specs.declared.numbers.Operation.{Operation}
use Rattle.rules.specs.declared.numbers.Operation.TheVariants as Op

abbrev pub call_number : Operation → ℕ
call_number Op.Convert = 1
call_number Op.Reclaim = 2
call_number Op.GlobalFence = 3
call_number Op.LocalFence = 4
call_number Op.Create = 5
call_number Op.Finalize = 6
call_number Op.Destroy = 8
call_number Op.Region = 9
call_number Op.PoolPages = 10
call_number Op.Measured = 11
call_number Op.Zero = 12
call_number Op.Vcpu = 14
call_number Op.Enter = 15
call_number Op.TvmFence = 16
call_number Op.Invalidate = 17
call_number Op.Validate = 18
call_number Op.Remove = 19
call_number Op.Leave = 32
call_number Op.Open = 33
