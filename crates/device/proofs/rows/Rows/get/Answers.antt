-- The part of the memory that is cut out is the sector's row.
-- Assumes nothing.
use Rattle.std.proofs.Common.{length, ap, ◌∙◌, arith}
use Rattle.device.proofs.Lasting.{row_cut, row_long}
use Rattle.device.proofs.rows.Rows.get.Goals as goal

pub returns : goal.returns
returns g c =
    let at = c.in_ok-at.ensures in
    let cut = row_cut g.row.ROW c.args.self.now.bytes.now c.args.sector c.in_ok-at.at at.1 in
    (at.0, cut, ap length cut ∙ row_long g.row.ROW c.args.self.now.bytes.now c.args.sector (omega arith))
