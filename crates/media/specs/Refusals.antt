-- The number that a refused memory goes by. It holds no further values.
-- Assumes nothing.
use Rattle.std.specs.Prelude.{ℕ}
use Rattle.media.specs.declared.memory.MemoryError.{MemoryError}
use Rattle.media.specs.declared.memory.MemoryError.TheVariants.{NotWholeRows}

abbrev pub number : MemoryError → ℕ
number NotWholeRows = 18
