-- No data word of the pages that were passed dangles.
-- Assumes nothing.
use Rattle.std.proofs.Common.{◌≡◌, ◌-◌, ◌<◌, true}
use Rattle.device.specs.Calling.{reads, each, Ran}
use Rattle.layout.specs.Geometries.{root_of}
use Rattle.image.specs.Stages.{IsReadOf, nth_body}
use Rattle.image.proofs.Judging.{NoneBefore}
use Rattle.image.proofs.judged.first_dangling.Given as goal

abbrev pub invariant-loop-sector : goal.invariant-loop-sector
invariant-loop-sector g l = record {
  ran : Ran g.D.Device (reads (each (nth_body l.log) (l.sector - root_of l.log.header.geometry))) l.fn.device l.device;
  on : root_of l.log.header.geometry < l.sector → g.D.Device.on l.device ≡ true;
  none : (r : IsReadOf (g.D.Device.count l.fn.device) (g.D.Device.current l.fn.device) l.log)
      → NoneBefore (g.D.Device.count l.fn.device) (g.D.Device.current l.fn.device) l.log r l.tally l.sector;
}
