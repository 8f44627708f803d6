-- A survey of a row image that was read whole into memory: at most 1,024 rows of 64 bytes.
-- Assumes nothing.
use Rattle.std.specs.Prelude.{◌≡◌, ℕ, ◌*◌, ◌%◌, ◌<◌, ◌≤◌, List, length, Ok, Err, Result, ◌≢◌}
use Rattle.media.specs.Rows.{held}
use Rattle.survey.specs.declared.condition.Condition.{Condition}
use Rattle.survey.specs.declared.condition.ImageError.{ImageError}
use Rattle.survey.specs.declared.condition.ImageError.TheVariants.{TooLong, NotWholeRows}
use Rattle.survey.specs.Conditions.{Surveyed}
use Rattle.survey.specs.Surveys.{SameFrom}

-- memory m is a card image
abbrev pub IsImage : List ℕ → Type 0
IsImage m = (length m ≤ 65536) × (length m % 64 ≡ 0)

-- memory m is no card image, and this is why
abbrev pub IsNoImage : List ℕ → ImageError → Type 0
IsNoImage m TooLong = 65536 < length m
IsNoImage m NotWholeRows = (length m ≤ 65536) × (length m % 64 ≢ 0)

-- memory m, and a table that holds xs before and ys after
abbrev pub SurveysImage : List ℕ → List Condition → List Condition → Result ℕ ImageError → Type 0
SurveysImage m xs ys (Ok n) = (n * 64 ≡ length m) × (n ≤ 1024)
    × Surveyed (held m) n ys × SameFrom n xs ys
SurveysImage m xs ys (Err e) = IsNoImage m e × (ys ≡ xs)
