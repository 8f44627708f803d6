-- The verdict on a card, by the conditions of its sectors. No two fit: the contract of `judge` says so.
-- Assumes nothing.
use Rattle.std.specs.Prelude.{◌≡◌, ◌<◌, List, length}
use Rattle.survey.specs.declared.condition.Condition.{Condition}
use Rattle.survey.specs.declared.condition.Condition.TheVariants.{Blank, Torn}
use Rattle.survey.specs.declared.condition.Verdict.{Verdict}
use Rattle.survey.specs.declared.condition.Verdict.TheVariants.{NoSectors, AllTorn, SomeTorn, AllBlank, AllReadable}
use Rattle.survey.specs.Conditions.{count_of}

abbrev pub IsVerdictOn : List Condition → Verdict → Type 0
IsVerdictOn xs NoSectors = length xs ≡ 0
IsVerdictOn xs AllTorn = (0 < length xs) × (count_of Torn xs ≡ length xs)
IsVerdictOn xs SomeTorn = (0 < count_of Torn xs) × (count_of Torn xs < length xs)
IsVerdictOn xs AllBlank = (0 < length xs) × (count_of Torn xs ≡ 0) × (count_of Blank xs ≡ length xs)
IsVerdictOn xs AllReadable = (0 < length xs) × (count_of Torn xs ≡ 0)
    × (count_of Blank xs < length xs)
