-- The kind of a data word and its 32 bits.
-- Assumes nothing.
use Rattle.std.specs.Prelude.{ℕ}
use Rattle.layout.specs.declared.word.Word.{Word}
use Rattle.layout.specs.declared.word.Word.TheVariants.{Number, Reference}

abbrev pub kind_of : Word → ℕ
kind_of (Number n) = 0
kind_of (Reference h) = 1

abbrev pub value_of : Word → ℕ
value_of (Number n) = n
value_of (Reference h) = h.0
