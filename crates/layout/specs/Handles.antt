-- The handle of an object: its page's sector times 16 plus its slot.
-- Assumes nothing.
use Rattle.std.specs.Prelude.{ℕ, ◌+◌, ◌*◌, ◌/◌, ◌%◌}
use Rattle.layout.specs.declared.handle.Handle.{Handle}

-- how many handles a sector has, one for each slot that a page may have
abbrev pub handles : ℕ
handles = 16

abbrev pub handle_of : ℕ → ℕ → Handle
handle_of s i = record { 0 = s * handles + i }

abbrev pub sector_of : Handle → ℕ
sector_of h = h.0 / handles

abbrev pub slot_of : Handle → ℕ
slot_of h = h.0 % handles
