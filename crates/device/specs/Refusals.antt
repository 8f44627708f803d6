-- The number that a refused memory goes by: one for every reason. It holds no further values.
-- Assumes nothing.
use Rattle.std.specs.Prelude.{ℕ}
use Rattle.device.specs.declared.memory.MemoryError.{MemoryError}
use Rattle.device.specs.declared.memory.MemoryError.TheVariants.{NotWholeRows, FewPlaces}

abbrev pub number : MemoryError → ℕ
number NotWholeRows = 18
number FewPlaces = 18
