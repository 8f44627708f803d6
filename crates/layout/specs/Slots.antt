-- The bits of a number, that of slot 0 lowest.
-- Assumes nothing.
use Rattle.std.specs.Prelude.{◌≡◌, ℕ, ◌/◌, ◌%◌, ◌^◌}

abbrev pub HasBit : ℕ → ℕ → Type 0
HasBit n i = n / 2 ^ i % 2 ≡ 1
