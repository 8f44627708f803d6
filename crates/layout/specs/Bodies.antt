-- The bytes of a page body: twelve words of four bytes each, two of head and then the ten data words.
-- Assumes nothing.
use Rattle.std.specs.Prelude.{ℕ, ◌+◌, ◌*◌, Bool, true, false, List, [], ◌∷◌, map, flat_map}
use Rattle.layout.specs.declared.word.Word.{Word}
use Rattle.layout.specs.declared.page.Page.{Page}
use Rattle.layout.specs.Numbers.{four}
use Rattle.layout.specs.Classes.{code_of}
use Rattle.layout.specs.Words.{kind_of, value_of}

abbrev pub bit_of : Bool → ℕ
bit_of true = 1
bit_of false = 0

-- one bit for each slot, that of slot 0 lowest, and above them the number above
unfoldable pub marks : List Bool → ℕ → ℕ
marks [] above = above
marks (b ∷ bs) above = bit_of b + 2 * marks bs above

-- two bits for each data word, those of data word 0 lowest, and nothing above them
unfoldable pub kinds : List Word → ℕ
kinds [] = 0
kinds (w ∷ ws) = kind_of w + 4 * kinds ws

-- The first head word marks the used slots in bits 0 to 9 and has the code of the class above them; the second tells the kinds.
abbrev pub body_words : Page → List ℕ
body_words p = marks p.used (code_of p.class) ∷ kinds p.words ∷ map value_of p.words

unfoldable pub body_bytes : Page → List ℕ
body_bytes p = flat_map four (body_words p)
