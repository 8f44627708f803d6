-- The sectors that were passed show no later epoch.
-- Assumes nothing.
use Rattle.std.proofs.Common.{◌≡◌, ℕ, ◌-◌, ◌≤◌, ◌<◌, true}
use Rattle.device.specs.Calling.{reads, each, Ran}
use Rattle.image.specs.Headers.{ShowsLater, log_sector}
use Rattle.image.proofs.log.first_later.Given as goal

abbrev pub invariant-loop-sector : goal.invariant-loop-sector
invariant-loop-sector g l = record {
  ran : Ran g.D.Device (reads (each log_sector (l.sector - 2))) l.fn.device l.device;
  on : 2 < l.sector → g.D.Device.on l.device ≡ true;
  none : (t : ℕ) → 2 ≤ t → t < l.sector → ShowsLater l.header.epoch (g.D.Device.count l.fn.device) (g.D.Device.current l.fn.device) t → ⊥;
}
