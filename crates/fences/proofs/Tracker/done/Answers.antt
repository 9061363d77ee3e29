-- Where the present version is past the recorded one by one alone, the fence is done when nobody is awaited.
use Prim.Native.Nat.{◌+◌, ◌<◌}
use mathlib.Core.Path.{◌≡◌}
use borrow.Author.Rules.{rules}
use borrow.Author.Tests.{lt-leb, eq-eqb}
use native.Mathlib.Omega.{arith}
use Rattle.rules.proofs.HartSets.{nobody}
use Rattle.fences.proofs.Tracker.done.Goals as goal

pub returns-in-1 : goal.returns-in-1
returns-in-1 g c =
    let a = c.args in
    let number = g.V.Version.number in
    let next : number a.self.version ≡ number a.recorded + 1 = omega arith in
    let early : number a.self.version < number a.recorded + 2 = omega arith in
    rw (lt-leb _ _ early, eq-eqb _ _ next) (nobody a.self.awaited (search rules))
