-- The memory that a row image stands on, and what a write leaves of it, byte for byte. Assumes nothing.
use Rattle.std.specs.Prelude.{◌≡◌, ℕ, List, MatchResult}
use Rattle.device.specs.Faults.{Answer}
use Rattle.device.specs.Memory.{bytes_of, bytes_at, with_row}
use Rattle.media.specs.declared.row_image.RowImage.{RowImage}
use Rattle.media.specs.Rows.{row_for}

-- the bytes of its memory, and which piece of the caller's memory they are
abbrev pub memory : RowImage → List ℕ
memory d = bytes_of d.rows

abbrev pub memory_at : RowImage → ℕ
memory_at d = bytes_at d.rows

-- A write of b to sector s puts it into its row, with its checksum, and leaves every other byte; refused, it leaves them all.
-- The memory is still the same piece.
pub record PutsInRow (s : ℕ) (b : List ℕ) (r : Answer) (d d' : RowImage) : Type 0 where
  pub bytes : MatchResult r
      (λ _. memory d' ≡ with_row 64 (memory d) s (row_for s b))
      (λ _. memory d' ≡ memory d)
  pub same : memory_at d' ≡ memory_at d
