-- The worked examples, by computation.
-- Assumes nothing.
use Rattle.crc32c.specs.Crc.{shifted, shifted_by, fed}
use Rattle.crc32c.specs.Examples.{WorkedExamples}
use Rattle.std.proofs.Common.{refl}

pub worked : WorkedExamples
unfolding fed shifted_by shifted
worked = (refl, refl)
