-- The row image: 64 bytes of memory for each sector, its payload and then a checksum.
-- Assumes nothing.
use Rattle.std.specs.Prelude.{ℕ, ◌/◌, ◌%◌, Bool, cond, ◌&&◌, List, [], ◌∷◌, ◌++◌, take}
use Rattle.std.specs.Str.{bytes_eq}
use Rattle.crc32c.specs.Crc.{crc}
use Rattle.device.specs.Sector.{Content, payload, torn, Image}
use Rattle.device.specs.Bytes.{all_bytes}
use Rattle.device.specs.Rules.{Meaning}
use Rattle.device.specs.Memory.{held_by, lasting}

-- a word of 32 bits as four bytes, low byte first
abbrev pub word_bytes : ℕ → List ℕ
word_bytes n = n % 256 ∷ n / 256 % 256 ∷ n / 65536 % 256 ∷ n / 16777216 % 256 ∷ []

-- the row that holds payload b in sector s: the payload, then the checksum of the payload and the sector's number
unfoldable pub row_for : ℕ → List ℕ → List ℕ
row_for s b = b ++ word_bytes (crc (b ++ word_bytes s))

-- whether row r is that of sector s for the payload that it begins with
abbrev pub sound : ℕ → List ℕ → Bool
sound s r = bytes_eq r (row_for s (take 60 r)) && all_bytes (take 60 r)

-- what row r of sector s holds: a sound row's payload, else it is torn
unfoldable pub row_holds : ℕ → List ℕ → Content
row_holds s r = cond (sound s r) (payload (take 60 r)) torn

-- what memory m holds in sector s
abbrev pub held : List ℕ → Image
held m = held_by row_holds 64 m

-- what a row image over memory m means: it is on, and its only possible contents are the current ones
abbrev pub rows_mean : List ℕ → Meaning
rows_mean m = lasting row_holds 64 m
