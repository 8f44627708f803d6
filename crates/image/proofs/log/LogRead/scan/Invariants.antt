-- The log has been read up to the next position.
-- Assumes nothing.
use Rattle.std.proofs.Common.{◌≡◌, ◌<◌, true}
use Rattle.device.specs.Calling.{reads, each, Ran}
use Rattle.image.specs.Headers.{log_sector}
use Rattle.image.specs.Stages.{log_header, HasRead}
use Rattle.image.proofs.log.LogRead.scan.Given as goal

abbrev pub invariant-loop-position : goal.invariant-loop-position
invariant-loop-position g l = record {
  ran : Ran g.D.Device (reads (each log_sector l.position)) l.fn.device l.device;
  on : 0 < l.position → g.D.Device.on l.device ≡ true;
  read : l.header.geometry.sectors ≡ g.D.Device.count l.fn.device → HasRead (g.D.Device.current l.fn.device) l.header l.position l.log;
  header : log_header l.log ≡ l.header;
}
