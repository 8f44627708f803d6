-- Byte 0 of a sector, which says of what kind it is; and byte 1 of a header, the edition of the format.
-- Assumes nothing.
use Rattle.std.specs.Prelude.{ℕ}

abbrev pub page_record_kind : ℕ
page_record_kind = 1

abbrev pub commit_record_kind : ℕ
commit_record_kind = 2

abbrev pub home_kind : ℕ
home_kind = 3

abbrev pub header_kind : ℕ
header_kind = 4

abbrev pub edition : ℕ
edition = 1
