-- What looking at one sector, and at all of them, tells, and which calls are made on the device for it.
-- Assumes nothing.
use Rattle.std.specs.Prelude.{◌≡◌, ℕ, ◌<◌, ◌≤◌, true, false, ◌⊎◌, List, [], ◌∷◌, length, Ok, Err, Result}
use Rattle.device.specs.declared.Device.{Ghosts}
use Rattle.device.specs.declared.Fault.{Fault}
use Rattle.device.specs.Rules.{Meaning, CountStays, Unchanged}
use Rattle.device.specs.Calling.{reads, sectors_from, Called, Ran, Stopped}
use Rattle.device.specs.Calling.Call.{read}
use Rattle.device.specs.Leaves.{SameFound}
use Rattle.survey.specs.declared.condition.Condition.{Condition}
use Rattle.survey.specs.declared.condition.SurveyError.{SurveyError}
use Rattle.survey.specs.declared.condition.SurveyError.TheVariants.{Off, ShortTable}
use Rattle.survey.specs.Conditions.{StandsFor, at, Surveyed}

-- looking at sector s changes nothing; it tells its condition, or is refused: at a sector below the count, only
-- since the device is off
abbrev pub TellsCondition : ℕ → Result Condition Fault → Meaning → Meaning → Type 0
TellsCondition s (Ok k) m m' = CountStays m m' × StandsFor k (m.current s) × Unchanged m m'
    × (m'.on ≡ true)
TellsCondition s (Err f) m m' = CountStays m m' × Unchanged m m'
    × (s < m.count → (f ≡ Fault.Off) × (m'.on ≡ false))

-- the one call that looking at sector s makes is a read of it; if it is refused, with the fault that the read answered
abbrev pub MakesOneRead : {D : Type 0} → Ghosts D → ℕ → Result Condition Fault → D → D → Type 0
MakesOneRead g s (Ok _) d d' = Ran g (reads (s ∷ [])) d d'
MakesOneRead g s (Err f) d d' = Called g (read s) (Err f) d d'

-- from place n on, table ys is table xs
abbrev pub SameFrom : ℕ → List Condition → List Condition → Type 0
SameFrom n xs ys = (s : ℕ) → n ≤ s → at ys s ≡ at xs s

-- A survey of a device into a table, xs before and ys after.
-- Accepted, the table has the condition of every sector, its other places are untouched, and so is the device: a cut leaves
-- the same images as before. Refused as short, the table has no place for some sector, and nothing is touched.
-- Refused as off, the device is off, and what it holds and what a cut may leave is as before; some of the first sectors have their
-- conditions in the table, and its other places are untouched, all of them if the device was off before.
abbrev pub Surveys : List Condition → List Condition → Result ℕ SurveyError → Meaning → Meaning
    → Type 0
Surveys xs ys (Ok n) m m' = (n ≡ m.count) × (n ≤ length xs)
    × Surveyed m.current n ys × SameFrom n xs ys
    × CountStays m m' × Unchanged m m' × SameFound m.possible m'.possible × (m'.on ≡ true)
Surveys xs ys (Err ShortTable) m m' = (length xs < m.count) × (ys ≡ xs)
    × CountStays m m' × Unchanged m m' × (m'.on ≡ m.on)
Surveys xs ys (Err Off) m m' = (m.count ≤ length xs)
    × ((n : ℕ) × (n ≤ m.count) × Surveyed m.current n ys × SameFrom n xs ys)
    × (m.on ≡ false → ys ≡ xs)
    × (m'.on ≡ false) × CountStays m m' × Unchanged m m'

-- The calls that a survey makes on the device, d before and d' after, and no other. Accepted, one read of each of the n sectors, in
-- order. Refused as short, none. Refused as off, none if the device was off before; else the first of these reads, up to one that
-- answers 1.
abbrev pub MakesReads : {D : Type 0} → Ghosts D → Result ℕ SurveyError → D → D → Type 0
MakesReads g (Ok n) d d' = Ran g (reads (sectors_from 0 n)) d d'
MakesReads g (Err ShortTable) d d' = d' ≡ d
MakesReads g (Err Off) d d' = ((g.on d ≡ false) × (d' ≡ d))
    ⊎ ((g.on d ≡ true) × Stopped g (reads (sectors_from 0 (g.count d))) d d')
