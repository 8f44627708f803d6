-- The row that is put holds the payload.
-- Assumes nothing.
use Rattle.std.proofs.Common.{length, ap, ◌∙◌}
use Rattle.device.proofs.Lasting.{put_written}
use Rattle.media.specs.Rows.{row_holds}
use Rattle.media.proofs.Sealing.{row_for_long, made_holds}
use Rattle.media.proofs.row_image.RowImageDevice.write.Goals as goal

pub returns-clause-rules : goal.returns-clause-rules
returns-clause-rules c =
    put_written row_holds 64 c.args.self.now.rows.bytes.now _ c.args.sector _ c.args.bytes.now c.put.result
    (ap length c.row_for.ensures ∙ row_for_long c.args.sector c.args.bytes.now c.told-bytes)
    (ap (row_holds c.args.sector) c.row_for.ensures ∙ made_holds c.args.sector c.args.bytes.now (record { sixty = c.told-bytes; bytes = c.fits-bytes }))
    c.put.ensures.put
