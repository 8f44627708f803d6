-- What was written, and the runs that are left behind it, make the whole text.
-- Assumes nothing.
use Rattle.std.proofs.Common.{◌≡◌, ℕ, List, ◌++◌, codes, flat_map}
use Rattle.std.specs.Fmt.{HasWritten, IsPlainFormatter}
use Rattle.survey.specs.declared.condition.Run.{Run}
use Rattle.survey.specs.Runs.{runs_left}
use Rattle.survey.specs.Texts.{run_text, runs_text}
use Rattle.survey.proofs.runs.RunsDisplay.fmt.Given as goal

abbrev pub invariant-loop-run : goal.invariant-loop-run
invariant-loop-run g l =
    IsPlainFormatter l.fn.f
    → (done : List ℕ)
    × HasWritten g.W.Write.write_str_gives l.fn.f done l.f
    × (done ++ flat_map (λ (r : Run). codes ", " ++ run_text r) (runs_left l.run-iterator) ≡ runs_text (runs_left l.fn.self))
