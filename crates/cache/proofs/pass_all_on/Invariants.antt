-- Those before the next one are below, and no content is lost.
-- Assumes nothing.
use Rattle.std.proofs.Common.{drop}
use Rattle.device.specs.Means.{means}
use Rattle.device.specs.Waiting.{with_waiting, Keeps}
use Rattle.device.specs.Faults.{Answer}
use Rattle.cache.specs.Below.{AllPassedOn}
use Rattle.cache.proofs.pass_all_on.Given as goal

abbrev pub invariant-loop-write : goal.invariant-loop-write
invariant-loop-write g l = record {
  keeps : Keeps (with_waiting l.writes (means g.D.Device l.fn.below)) (with_waiting (drop l.write-index l.writes) (means g.D.Device l.below));
  sent : (r : Answer) (e : g.row.D.Denot) → AllPassedOn g.D.Device (drop l.write-index l.writes) r l.below e → AllPassedOn g.D.Device l.writes r l.fn.below e;
}
