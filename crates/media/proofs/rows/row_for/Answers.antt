-- The payload and its checksum are copied into the row.
-- Assumes nothing.
use Rattle.std.proofs.Common.{◌∙◌}
use Rattle.media.proofs.Sealing.{copied}
use Rattle.media.proofs.rows.row_for.Goals as goal

pub returns : goal.returns
returns c = copied c.args.sector c.args.bytes.now _ _ c.told-bytes c.copy_from_slice.ensures.after (c.copy_from_slice-2.ensures.after ∙ c.seal.ensures)
