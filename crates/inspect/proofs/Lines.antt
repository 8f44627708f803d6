-- The lines of a report, one behind the other, are its text.
-- Assumes nothing.
use Rattle.std.proofs.Common.{◌≡◌, ℕ, ◌+◌, ◌-◌, List, ◌++◌, length, codes, refl, arith}
use Rattle.std.specs.Fmt.{decimal}
use Rattle.survey.specs.declared.condition.Condition.{Condition}
use Rattle.survey.specs.declared.condition.Condition.TheVariants.{Blank, Torn}
use Rattle.survey.specs.declared.condition.Verdict.{Verdict}
use Rattle.survey.specs.declared.runs.Runs.{Runs}
use Rattle.survey.specs.Conditions.{count_of}
use Rattle.survey.specs.Runs.{LooksFrom, runs_in, runs_left}
use Rattle.survey.specs.Texts.{runs_text, sentence}
use Rattle.inspect.specs.Reports.{line, report_text}

-- an iterator that looks from the first sector has all runs left
all_left : (runs : Runs) (xs : List Condition) (k : Condition) → LooksFrom runs xs k 0 → runs_left runs ≡ runs_in k 0 xs
all_left runs xs k e = rw (e.0, e.1, e.2) refl

-- the lines as they are written
pub whole : (xs : List Condition) (v : Verdict) (n : ℕ) (blank torn : Runs) → n + count_of Torn xs ≡ length xs → LooksFrom blank xs Blank 0 → LooksFrom torn xs Torn 0
    → (((line (codes "sectors") (decimal (length xs)) ++ line (codes "readable") (decimal n)) ++ line (codes "blank") (runs_text (runs_left blank)))
    ++ line (codes "torn") (runs_text (runs_left torn))) ++ sentence v ≡ report_text xs v
whole xs v n blank torn e b t =
    let readable : n ≡ length xs - count_of Torn xs = omega arith in
    rw (readable, all_left blank xs Blank b, all_left torn xs Torn t) refl
