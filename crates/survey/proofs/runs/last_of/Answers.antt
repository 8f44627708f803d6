-- The run ends before the first sector in another condition, or with the table.
-- Assumes nothing.
use Rattle.std.proofs.Common.{◌≡◌, ◌≢◌, ℕ, ◌<◌, ◌≤◌, List, length, Option, Some, None, MatchOption, unwrap_or, rules, arith}
use Rattle.std.proofs.lemmas.Iterator.{first_from_Range}
use borrow.Author.Tests.{tests}
use Rattle.survey.specs.declared.condition.Condition.{Condition}
use Rattle.survey.specs.Conditions.{at}
use Rattle.survey.proofs.runs.last_of.Goals as goal

last_before : (xs : List Condition) (first : ℕ) (r : Option ℕ) → first < length xs
    → MatchOption r ((s : ℕ) → first ≤ s → s < length xs → at xs s ≡ at xs first) (λ i. (first ≤ i) × (i < length xs) × (at xs i ≢ at xs first) × ((s : ℕ) → first ≤ s → s < i → at xs s ≡ at xs first))
    → (first < unwrap_or r (length xs)) × ((s : ℕ) → first ≤ s → s < unwrap_or r (length xs) → at xs s ≡ at xs first)
last_before xs first None h p = (h, p)
last_before xs first (Some i) h p = (grind arith, p.3)

run : (c : goal.After-unwrap_or) → (c.args.first < c.unwrap_or.result) × ((s : ℕ) → c.args.first ≤ s → s < c.unwrap_or.result → at c.args.conditions.now s ≡ at c.args.conditions.now c.args.first)
run c = rw c.unwrap_or.ensures (last_before _ _ _ c.requires
    (first_from_Range _ _ _ _ (λ (s : ℕ). at c.args.conditions.now s ≢ at c.args.conditions.now c.args.first) (λ (s : ℕ). at c.args.conditions.now s ≡ at c.args.conditions.now c.args.first)
    c.find-past.ensures.ran (λ x q k. search (rules, tests)) (λ x q k. search (rules, tests))))

pub overflow_sub-result : goal.overflow_sub-result
overflow_sub-result c = omega (arith, (run c).0)

pub returns-clause-all : goal.returns-clause-all
returns-clause-all c = λ s low high. (run c).1 s low (omega (arith, (run c).0))
