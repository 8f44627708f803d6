-- CRC-32C, bit by bit: what a register holds as bytes are fed to it, and the checksum that it gives.
-- Assumes nothing.
use Rattle.std.specs.Prelude.{◌≡◌, ℕ, zero, suc, ◌*◌, ◌/◌, ◌%◌, List, bit_xor, fold}
use Rattle.crc32c.specs.declared.Crc32c.{Crc32c}

-- one bit: the register is halved, and where a one falls out the reflected polynomial is subtracted
unfoldable pub shifted : ℕ → ℕ
shifted r = bit_xor (r / 2) (r % 2 * 0x82F63B78)

-- n bits
unfoldable pub shifted_by : ℕ → ℕ → ℕ
shifted_by zero r = r
shifted_by (suc n) r = shifted_by n (shifted r)

-- one byte: it is added to the register, and its bits are shifted out, the lowest first
abbrev pub byte_in : ℕ → ℕ → ℕ
byte_in r b = shifted_by 8 (bit_xor r b)

-- all bytes, in order
unfoldable pub fed : ℕ → List ℕ → ℕ
fed r bytes = fold byte_in r bytes

-- the register starts as all ones, and is complemented at the end
abbrev pub crc : List ℕ → ℕ
crc bytes = bit_xor (fed 0xFFFFFFFF bytes) 0xFFFFFFFF

-- a running checksum stands for the bytes that it has taken
abbrev pub Stands : Crc32c → List ℕ → Type 0
Stands c xs = c.register ≡ fed 0xFFFFFFFF xs
