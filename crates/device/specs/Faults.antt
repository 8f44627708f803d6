-- The number that each fault goes by, and the number that a call returns: 0 where it is accepted.
-- A fault holds no further values. Assumes nothing.
use Rattle.std.specs.Prelude.{ℕ, Ok, Err, Result}
use Rattle.device.specs.declared.fault.Fault.{Fault}
use Rattle.device.specs.declared.fault.Fault.TheVariants.{Off, NoSector, Torn}

abbrev pub number : Fault → ℕ
number Off = 1
number NoSector = 2
number Torn = 3

abbrev pub Answer : Type 0
Answer = Result (Unit {0}) Fault

abbrev pub returned : Answer → ℕ
returned (Ok _) = 0
returned (Err f) = number f
