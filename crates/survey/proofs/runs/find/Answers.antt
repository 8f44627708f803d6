-- The sector found is in the wanted condition, and those before it are not.
-- Assumes nothing.
use Rattle.std.proofs.Common.{◌≡◌, ◌≢◌, ℕ, rules}
use Rattle.std.proofs.lemmas.Iterator.{first_from_Range}
use borrow.Author.Tests.{tests}
use Rattle.survey.specs.Conditions.{at}
use Rattle.survey.proofs.runs.find.Goals as goal

pub returns : goal.returns
returns c = first_from_Range _ _ _ _ (λ (s : ℕ). at c.args.conditions.now s ≡ c.args.wanted) (λ (s : ℕ). at c.args.conditions.now s ≢ c.args.wanted) c.find.ensures.ran (λ x q k. search (rules, tests)) (λ x q k. search (rules, tests))
