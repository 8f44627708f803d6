-- The part of the memory that is overwritten is the sector's row.
-- Assumes nothing.
use Rattle.device.proofs.Lasting.{row_put}
use Rattle.device.proofs.rows.Rows.put.Goals as goal

pub returns-clause-put : goal.returns-clause-put
returns-clause-put g c = (
  c.in_ok-at.ensures.0,
  row_put g.row.ROW c.args.self.now.bytes.now c.args.sector c.in_ok-at.at c.args.row.now _ c.in_ok-at.ensures.1 c.told-row c.copy_from_slice.ensures.after,
)
