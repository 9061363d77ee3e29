use Prim.Native.Nat.{◌/◌}
use Rattle.std.proofs.Common.{rules}
use Rattle.rules.specs.Refusals as n
use Rattle.door.proofs.Ready.{region_untyped}
use Rattle.seats.proofs.regions.refuses10.Goals as goal

pub returns-then-is : goal.returns-then-is
unfolding n.refuses10
returns-then-is c = let e = c.any_region.ensures (n.overlaps (c.arg.result / 4096) c.args.pages) (λ g x h. search rules) in search (rules, region_untyped)

pub returns-then-names : goal.returns-then-names
unfolding n.refuses10
returns-then-names c = let e = c.any_region-then-names.ensures (n.holds (c.arg.result / 4096) c.args.pages) (λ g x h. search rules) in search rules
