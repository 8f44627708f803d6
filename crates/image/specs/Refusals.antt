-- The number that each refusal of an image goes by, and its values: where it has them, the sector and the data word.
-- Assumes nothing.
use Rattle.std.specs.Prelude.{ℕ, List, [], ◌∷◌, Option, Some, None}
use Rattle.image.specs.declared.refusal.ImageRefusal.{ImageRefusal}
use Rattle.image.specs.declared.refusal.ImageRefusal.TheVariants.{NoHeader, LaterEpoch, Torn, Unlawful, Dangling}

pub record Told : Type 0 where
  pub number : ℕ
  pub values : List ℕ

-- of the values, the sector and the data word, where they are told
abbrev pub sector_told : List ℕ → Option ℕ
sector_told [] = None
sector_told (s ∷ vs) = Some s

abbrev pub word_told : List ℕ → Option ℕ
word_told [] = None
word_told (s ∷ []) = None
word_told (s ∷ w ∷ vs) = Some w

abbrev pub tells : ℕ → List ℕ → Told
tells n vs = record { number = n; values = vs }

abbrev pub told : ImageRefusal → Told
told NoHeader = tells 14 []
told (LaterEpoch s) = tells 15 (s ∷ [])
told (Torn s) = tells 3 (s ∷ [])
told (Unlawful s) = tells 16 (s ∷ [])
told (Dangling s w) = tells 17 (s ∷ w ∷ [])
