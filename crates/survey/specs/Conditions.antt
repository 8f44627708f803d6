-- The condition of a sector, and of all sectors of a device.
-- Assumes nothing.
use Rattle.std.specs.Prelude.{◌≡◌, ℕ, ◌<◌, Bool, true, false, List, replicate, count_by, ◌≢◌, slice_index_or}
use Rattle.device.specs.Sector.{Content, payload, torn, Image}
use Rattle.survey.specs.declared.condition.Condition.{Condition}
use Rattle.survey.specs.declared.condition.Condition.TheVariants.{Blank, Written, Torn}

-- which content a condition stands for
abbrev pub StandsFor : Condition → Content → Type 0
StandsFor Blank c = c ≡ payload (replicate 60 0)
StandsFor Written c = (b : List ℕ) × (c ≡ payload b) × (b ≢ replicate 60 0)
StandsFor Torn c = c ≡ torn

-- the condition that a table gives sector s
abbrev pub at : List Condition → ℕ → Condition
at xs s = slice_index_or xs s Blank

-- a table gives each of the first n sectors of an image its condition
abbrev pub Surveyed : Image → ℕ → List Condition → Type 0
Surveyed σ n xs = (s : ℕ) → s < n → StandsFor (at xs s) (σ s)

-- whether two conditions are the same
abbrev pub same : Condition → Condition → Bool
same Blank Blank = true
same Written Written = true
same Torn Torn = true
same _ _ = false

-- how many sectors of a table are in condition k
abbrev pub count_of : Condition → List Condition → ℕ
count_of k xs = count_by (same k) xs
