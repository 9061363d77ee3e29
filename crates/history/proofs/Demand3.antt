-- Demand 3, all of it.
-- Assumes nothing.
use Rattle.history.specs.Demand3.{Demand3}
use Rattle.history.proofs.Holders.{holders_agree, given_unheld, one_claim}
use Rattle.history.proofs.Guest.{guest_safe}
use Rattle.history.proofs.Host.{host_safe}
use Rattle.history.proofs.Converted.{converted_waits}
use Rattle.history.proofs.Blocked.{blocked_waits}

pub demand_3 : Demand3
demand_3 = record {
  holders_agree = holders_agree;
  given_unheld = given_unheld;
  one_claim = one_claim;
  guest_safe = guest_safe;
  host_safe = host_safe;
  converted_waits = converted_waits;
  blocked_waits = blocked_waits;
}
