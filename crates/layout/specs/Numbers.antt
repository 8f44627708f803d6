-- Numbers in bytes: low byte first, in the number of bytes that the name says.
-- Assumes nothing.
use Rattle.std.specs.Prelude.{ℕ, ◌+◌, List, replicate, slice_range}
use Rattle.std.specs.Int.{w16, w32, to_le_bytes, from_le_bytes}

abbrev pub two : ℕ → List ℕ
two n = to_le_bytes w16 n

abbrev pub four : ℕ → List ℕ
four n = to_le_bytes w32 n

-- the number in the bytes from place i on
unfoldable pub two_at : List ℕ → ℕ → ℕ
two_at b i = from_le_bytes w16 (slice_range b i (i + 2))

unfoldable pub four_at : List ℕ → ℕ → ℕ
four_at b i = from_le_bytes w32 (slice_range b i (i + 4))

-- n bytes of zero
abbrev pub zeros : ℕ → List ℕ
zeros n = replicate n 0
