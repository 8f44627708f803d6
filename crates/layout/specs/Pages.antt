-- Which pages are lawful.
-- Assumes nothing.
use Rattle.std.specs.Prelude.{◌≡◌, ℕ, ◌^◌, ◌<◌, Bool, true, false, ◌⊎◌, ◌↔◌, IsTrue, length, slice_index_or}
use Rattle.layout.specs.declared.class.Class.{Class}
use Rattle.layout.specs.declared.class.Class.TheVariants.{Root}
use Rattle.layout.specs.declared.word.Word.{Word}
use Rattle.layout.specs.declared.word.Word.TheVariants.{Number, Reference}
use Rattle.layout.specs.declared.page.Page.{Page}
use Rattle.layout.specs.Classes.{slots_of, Takes}
use Rattle.layout.specs.Words.{value_of}

-- slot i holds an object
abbrev pub IsUsed : Page → ℕ → Type 0
IsUsed p i = slice_index_or p.used i false ≡ true

-- data word j
abbrev pub word_at : Page → ℕ → Word
word_at p j = slice_index_or p.words j (Number 0)

-- data word j is a word of an object
abbrev pub InObject : Page → ℕ → Type 0
InObject p j = (i : ℕ) × IsUsed p i × Takes p.class i j

-- what may stand in a data word outside objects: number 0, and in the root page a reference
abbrev pub Outside : Class → Word → Type 0
Outside c (Number n) = n ≡ 0
Outside c (Reference h) = c ≡ Root

-- ten marks and ten words, of 32 bits
pub record Shaped (p : Page) : Type 0 where
  pub ten_marks : length p.used ≡ 10
  pub ten_words : length p.words ≡ 10
  pub fit : (j : ℕ) → value_of (word_at p j) < 2 ^ 32

-- A page of the root page's sector, or else of a data page's: it is of the root class exactly in the former; only slots that its class has
-- are used, and one is if it has any; and in a word that belongs to no object stands what may stand there.
pub record Lawful (root : Bool) (p : Page) : Type 0 where
  pub shaped : Shaped p
  pub place : IsTrue root ↔ (p.class ≡ Root)
  pub slots : (i : ℕ) → IsUsed p i → i < slots_of p.class
  pub some : 0 < slots_of p.class → (i : ℕ) × IsUsed p i
  pub outside : (j : ℕ) → j < 10 → InObject p j ⊎ Outside p.class (word_at p j)
