-- Published examples of CRC-32C: of 32 zero bytes, and of the nine digits that check values are given for.
-- Assumes nothing.
use Rattle.crc32c.specs.Crc.{crc}
use Rattle.std.specs.Prelude.{◌≡◌, replicate, codes}

abbrev pub WorkedExamples : Type 0
WorkedExamples = (crc (replicate 32 0) ≡ 0x8A9136AA) × (crc (codes "123456789") ≡ 0xE3069283)
