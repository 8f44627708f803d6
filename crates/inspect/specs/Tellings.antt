-- What is told of a row image that was read whole into memory. Assumes nothing.
use Rattle.std.specs.Prelude.{◌≡◌, ℕ, ◌*◌, List, length}
use Rattle.media.specs.Rows.{held, rows_mean}
use Rattle.survey.specs.declared.condition.Condition.{Condition}
use Rattle.survey.specs.Conditions.{Surveyed}
use Rattle.survey.specs.Images.{IsImage}
use Rattle.survey.specs.Verdicts.{IsVerdictOn}
use Rattle.inspect.specs.declared.report.Report.{Report}
use Rattle.inspect.specs.declared.told.Told.{Told}
use Rattle.inspect.specs.Cards.{ToldOf}

-- the conditions that a report is on
abbrev pub conditions_of : Report → List Condition
conditions_of r = r.conditions.now

-- Memory m is a card image. One report is on the conditions of its sectors, all of them, with their verdict; the other has what is told
-- of its heap.
pub record TellsOf (m : List ℕ) (t : Told) : Type 0 where
  pub image : IsImage m
  pub sectors : length (conditions_of t.sectors) * 64 ≡ length m
  pub surveyed : Surveyed (held m) (length (conditions_of t.sectors)) (conditions_of t.sectors)
  pub verdict : IsVerdictOn (conditions_of t.sectors) t.sectors.verdict
  pub heap : ToldOf (rows_mean m) t.heap.0
