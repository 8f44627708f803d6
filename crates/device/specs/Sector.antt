-- What a sector holds, and which images of a whole device a power cut may leave.
-- Assumes nothing.
use Rattle.std.specs.Prelude.{◌≡◌, ℕ, ◌<◌, List, length, slice_index}

-- a payload, or torn: no payload can be read
pub data Content : Type 0 where
  payload : List ℕ → Content
  torn : Content

-- 60 bytes, each below 256
pub record IsPayload (b : List ℕ) : Type 0 where
  pub sixty : length b ≡ 60
  pub bytes : (i : ℕ) → slice_index b i < 256

abbrev pub Lawful : Content → Type 0
Lawful (payload b) = IsPayload b
Lawful torn = Unit {0}

-- a content for each sector
abbrev pub Image : Type 0
Image = ℕ → Content

-- for each sector, the contents that a cut may leave there
abbrev pub Possible : Type 1
Possible = ℕ → Content → Type 0

-- an image that a cut may leave: each sector, independently, holds one of its possible contents
abbrev pub Found : Possible → Image → Type 0
Found p σ = (s : ℕ) → p s (σ s)
