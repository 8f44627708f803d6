-- What is printed of a card.
-- Assumes nothing.
use Rattle.std.specs.Prelude.{ℕ, ◌-◌, List, ◌++◌, length, codes}
use Rattle.std.specs.Fmt.{decimal}
use Rattle.survey.specs.declared.condition.Condition.{Condition}
use Rattle.survey.specs.declared.condition.Condition.TheVariants.{Blank, Torn}
use Rattle.survey.specs.declared.condition.Verdict.{Verdict}
use Rattle.survey.specs.Conditions.{count_of}
use Rattle.survey.specs.Runs.{runs_in}
use Rattle.survey.specs.Texts.{runs_text, sentence}

-- a line that begins with a name
abbrev pub line : List ℕ → List ℕ → List ℕ
line name text = name ++ codes ": " ++ text ++ codes "\n"

-- the report on a card whose sectors are in conditions xs, with verdict v; whoever prints it ends the last line
abbrev pub report_text : List Condition → Verdict → List ℕ
report_text xs v =
    line (codes "sectors") (decimal (length xs))
    ++ line (codes "readable") (decimal (length xs - count_of Torn xs))
    ++ line (codes "blank") (runs_text (runs_in Blank 0 xs))
    ++ line (codes "torn") (runs_text (runs_in Torn 0 xs))
    ++ sentence v
