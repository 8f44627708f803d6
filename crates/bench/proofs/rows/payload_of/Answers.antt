-- A row gives its payload exactly if its mark says that it can be read.
-- Assumes nothing.
use Rattle.std.proofs.Common.{refl}
use Rattle.bench.proofs.Marking.{read_out, read_torn}
use Rattle.bench.proofs.rows.payload_of.Goals as goal

pub returns-then-mark-eq-READABLE : goal.returns-then-mark-eq-READABLE
returns-then-mark-eq-READABLE c = (read_out c.args.row.now c.requires (λ i. (c.type_inv.row i).fits) _ _ c.split_at.ensures.front c.split_at.ensures.back c.if-mark-eq-READABLE.true, c.split_at.ensures.front_len)

pub returns-else-mark-eq-READABLE : goal.returns-else-mark-eq-READABLE
returns-else-mark-eq-READABLE c = (read_torn c.args.row.now c.requires (λ i. (c.type_inv.row i).fits) _ _ c.split_at.ensures.front c.split_at.ensures.back c.if-mark-eq-READABLE.false, refl)
