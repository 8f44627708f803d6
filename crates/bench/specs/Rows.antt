-- The rows of the bench device: 61 bytes of memory for each sector, its payload and then a mark.
-- Assumes nothing.
use Rattle.std.specs.Prelude.{ℕ, Bool, true, false, cond, List, [], ◌∷◌, ◌++◌, take, ◌==◌, slice_index_or}
use Rattle.device.specs.Sector.{Content, torn, Image, Lawful}
use Rattle.device.specs.Bytes.{content, content_lawful}
use Rattle.device.specs.Rules.{Meaning, Laws}
use Rattle.device.specs.Memory.{held_by, lasting, lasting_laws}

-- the row that holds payload b: the mark 0 says that it can be read
abbrev pub readable : List ℕ → List ℕ
readable b = b ++ 0 ∷ []

-- row r torn: the mark 1, and the bytes before it kept
abbrev pub torn_row : List ℕ → List ℕ
torn_row r = take 60 r ++ 1 ∷ []

-- whether row r can be read: any mark but 0 says that it is torn
abbrev pub is_readable : List ℕ → Bool
is_readable r = slice_index_or r 60 1 == 0

-- what row r holds: the content that its bytes are, if it can be read, else it is torn
unfoldable pub row_holds : List ℕ → Content
row_holds r = cond (is_readable r) (content (take 60 r)) torn

-- what memory m holds in sector s
abbrev pub durable : List ℕ → Image
durable m = held_by (λ _. row_holds) 61 m

-- what a device over memory m means with no writes waiting: it is on, and its only possible contents are the current ones
abbrev pub rows_mean : List ℕ → Meaning
rows_mean m = lasting (λ _. row_holds) 61 m

lawful_either : (t : Bool) (b : List ℕ) → Lawful (cond t (content b) torn)
lawful_either true b = content_lawful b
lawful_either false b = tt

row_lawful : (r : List ℕ) → Lawful (row_holds r)
unfolding row_holds
row_lawful r = lawful_either (is_readable r) (take 60 r)

-- the laws of a device hold of any memory
pub rows_laws : (m : List ℕ) → Laws (rows_mean m)
rows_laws m = lasting_laws (λ _. row_holds) (λ _. row_lawful) 61 m
