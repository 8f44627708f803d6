-- The classes of pages: the code of each, the words of a slot, how many slots there are, and which data words a slot takes.
-- Assumes nothing.
use Rattle.std.specs.Prelude.{ℕ, ◌+◌, ◌*◌, ◌<◌, ◌≤◌}
use Rattle.layout.specs.declared.class.Class.{Class}
use Rattle.layout.specs.declared.class.Class.TheVariants.{Free, One, Two, Three, Five, Ten, Root}

abbrev pub code_of : Class → ℕ
code_of Free = 0
code_of One = 1
code_of Two = 2
code_of Three = 3
code_of Five = 4
code_of Ten = 5
code_of Root = 6

-- the words of a slot
abbrev pub size_of : Class → ℕ
size_of Free = 0
size_of One = 1
size_of Two = 2
size_of Three = 3
size_of Five = 5
size_of Ten = 10
size_of Root = 0

abbrev pub slots_of : Class → ℕ
slots_of Free = 0
slots_of One = 10
slots_of Two = 5
slots_of Three = 3
slots_of Five = 2
slots_of Ten = 1
slots_of Root = 0

-- slot i takes data word j: it takes so many as it has words, from i times its size on
abbrev pub Takes : Class → ℕ → ℕ → Type 0
Takes c i j = (i < slots_of c) × (i * size_of c ≤ j) × (j < i * size_of c + size_of c)
