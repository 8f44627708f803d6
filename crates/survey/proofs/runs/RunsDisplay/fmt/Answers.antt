-- Each run that is given is the first that is left, and is written behind the others.
-- Assumes nothing.
use Rattle.std.proofs.Common.{◌∷◌, ◌++◌, codes, rules, ap, sym, ◌∙◌}
use Rattle.std.proofs.Output.{has_written_append, has_written_of_eq}
use Rattle.survey.proofs.Listed.{gives_first, gives_none, text_of_first, text_of_next, text_of_last, text_of_none}
use Rattle.survey.specs.declared.runs.Runs.{Runs}
use Rattle.survey.specs.Runs.{runs_left}
use Rattle.survey.specs.Texts.{run_text}
use Rattle.survey.proofs.runs.RunsDisplay.fmt.Goals as goal

pub loop-run-init : goal.loop-run-init
loop-run-init g c = λ plain. (_, search rules, text_of_first _ _ _ (gives_first c.args.self.now c.next.new.self c.in-Some.first c.in-Some.ensures.steps ∙ ap (λ (r : Runs). c.in-Some.first ∷ runs_left r) (sym c.into_iter-run-iterator.ensures.into_iter_gives)))

pub loop-run-preserved : goal.loop-run-preserved
loop-run-preserved g c = λ plain.
    let so_far = c.loop-run.invariant plain in
    (so_far.0 ++ (codes ", " ++ run_text c.in-Some-run.run'), has_written_append _ _ _ _ _ _ so_far.1 (search rules), text_of_next _ _ _ _ _ (gives_first c.loop-run.run-iterator c.next-in-loop-run.new.self c.in-Some-run.run' c.in-Some-run.ensures.steps) so_far.2)

pub returns-clause-writes : goal.returns-clause-writes
returns-clause-writes g c = λ plain _.
    let so_far = c.loop-run.invariant plain in
    has_written_of_eq _ _ _ _ _ (text_of_last _ _ _ (gives_none c.loop-run.run-iterator c.next-in-loop-run.new.self c.in-None.ensures.steps) so_far.2) so_far.1

pub returns-in_default-clause-writes : goal.returns-in_default-clause-writes
returns-in_default-clause-writes g c = λ plain ok.
    has_written_of_eq _ _ _ _ _ (text_of_none _ (gives_none c.args.self.now c.next.new.self c.in_default.ensures.steps)) (search rules)
