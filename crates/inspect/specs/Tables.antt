-- What is left of the caller's table once the reports that borrow it are gone. Assumes nothing.
use Rattle.std.specs.Prelude.{ℕ, List, length, Ok, Err, Result}
use Rattle.std.specs.Borrow.{Fml, MutBor}
use Rattle.std.specs.Io.BufRead.{Rests}
use Rattle.survey.specs.declared.condition.ImageError.{ImageError}
use Rattle.survey.specs.Images.{SurveysImage}
use Rattle.inspect.specs.declared.told.Told.{Told}
use Rattle.inspect.specs.declared.told.Table.{Table}
use Rattle.inspect.specs.contracts.told.Table.{the_row}
use Rattle.inspect.specs.Tellings.{conditions_of}

-- how many sectors are told of, or why none
abbrev pub sectors_told : Result Told ImageError → Result ℕ ImageError
sectors_told (Ok t) = Ok (length (conditions_of t.sectors))
sectors_told (Err e) = Err e

-- the table is left as a survey of memory m leaves it
abbrev pub LeavesTable : List ℕ → MutBor Table → Result Told ImageError → Fml
LeavesTable m table r = Rests the_row table
    (λ left. SurveysImage m table.now.places left.places (sectors_told r))
