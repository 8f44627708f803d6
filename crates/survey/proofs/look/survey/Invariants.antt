-- The sectors that were passed are read and told, and the device is as it was.
-- Assumes nothing.
use Rattle.survey.proofs.Tables.{SoFar}
use Rattle.survey.proofs.look.survey.Given as goal

abbrev pub invariant-loop-sector : goal.invariant-loop-sector
invariant-loop-sector g l = SoFar g.D.Device l.sector l.initial.table l.table l.initial.device l.device
