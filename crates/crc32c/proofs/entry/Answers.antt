-- The whole table is compared with its rule at once.
-- Assumes nothing.
use Rattle.crc32c.proofs.Register.{by_table}
use Rattle.crc32c.proofs.entry.Goals as goal
use Rattle.crc32c.specs.Crc.{shifted, shifted_by}
use Rattle.std.proofs.Common.{refl}

pub returns : goal.returns
unfolding shifted shifted_by
returns c = by_table _ refl _
