-- A sector with the first byte of a record, whatever else it says.
-- Assumes nothing.
use Rattle.std.specs.Prelude.{◌≡◌, ◌⊎◌, ℕ, List, slice_index}
use Rattle.layout.specs.Kinds.{page_record_kind, commit_record_kind}

abbrev pub HasRecordByte : List ℕ → Type 0
HasRecordByte b = (slice_index b 0 ≡ page_record_kind) ⊎ (slice_index b 0 ≡ commit_record_kind)
