-- CRC-32C as a remainder of polynomials over GF(2), with no steps: what is left of a message divided by the generator.
-- Assumes nothing.
use Rattle.std.specs.Prelude.{◌≡◌, ℕ, ◌+◌, ◌*◌, ◌^◌, ◌<◌, Bool, cond, List, [], ◌∷◌, length, bit_xor, slice_index}
use Rattle.crc32c.specs.Crc.{crc}

-- A number stands for a polynomial in reflected order: its lowest bit is the coefficient of the highest power of x.
-- Sum and difference are both xor.

-- x^32 + x^28 + x^27 + x^26 + x^25 + x^23 + x^22 + x^20 + x^19 + x^18 + x^14 + x^13 + x^11 + x^10 + x^9 + x^8 + x^6 + 1
abbrev pub generator : ℕ
generator = 0x105EC76F1

-- the product of g and the polynomial with these coefficients
unfoldable pub times : List Bool → ℕ → ℕ
times [] g = 0
times (b ∷ bs) g = bit_xor (cond b g 0) (times bs g * 2)

-- the bytes as one number, the first byte lowest
unfoldable pub value_of : List ℕ → ℕ
value_of [] = 0
value_of (b ∷ bs) = b + 256 * value_of bs

abbrev pub Bytes : List ℕ → Type 0
Bytes xs = (i : ℕ) → slice_index xs i < 256

-- The message times x^32, its first 32 bits complemented, less a multiple of the generator is R, of degree below 32.
-- In reflected order that is R above as many zeros as the message has bits.
pub record Remainder (bytes : List ℕ) (R : ℕ) : Type 0 where
  pub quotient : List Bool
  pub leaves : bit_xor (bit_xor 0xFFFFFFFF (value_of bytes)) (times quotient generator) ≡ R * 2 ^ (8 * length bytes)
  pub small : R < 2 ^ 32

-- what a checksum means, of any bytes
abbrev pub Division : Type 0
Division = (bytes : List ℕ) → Bytes bytes → Remainder bytes (bit_xor (crc bytes) 0xFFFFFFFF)
