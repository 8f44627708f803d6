-- All is passed on, and the device below is flushed.
-- Assumes nothing.
use Rattle.std.proofs.Common.{Ok, refl, rules}
use Rattle.device.specs.Means.{means}
use Rattle.device.proofs.Waits.{flushed}
use Rattle.cache.proofs.CacheDevice.flush.Goals as goal

pub returns-clause-rules : goal.returns-clause-rules
returns-clause-rules g c = rw c.clear.ensures (flushed _ _ (means g.D.Device c.pass_all_on.new.below) _ (Ok tt) (search rules) (search rules) refl)
