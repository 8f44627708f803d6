-- So many of the sectors that were passed are in the wanted condition.
-- Assumes nothing.
use Rattle.std.proofs.Common.{◌≡◌, ◌≤◌, ◌<◌, ◌+◌, ◌%◌, ◌++◌, ℕ, Bool, true, false, cond, List, [], ◌∷◌, length, refl, subst, length-append, Bor, rules, arith}
use Rattle.std.proofs.lemmas.Fn.{fold_over, fronts, slice_gives}
use Rattle.std.proofs.lemmas.List.Sums.{count_by-le-length, sum_by-append}
use Rattle.survey.specs.declared.condition.Condition.{Condition}
use Rattle.survey.specs.Conditions.{count_of, same}
use Rattle.survey.proofs.runs.how_many.Goals as goal

-- a is the count of ys, where they are as few as a count can tell
abbrev Counts : Condition → List Condition → ℕ → Type 0
Counts k ys a = length ys < 18446744073709551616 → a ≡ count_of k ys

more : (k : Condition) (ys : List Condition) (a b : ℕ) (x : Condition) → Counts k ys a → b ≡ (a + cond (same k x) 1 0) % 18446744073709551616 → Counts k (ys ++ x ∷ []) b
more k ys a b x j e h =
    let l = length-append ys (x ∷ []) in
    let is = j (omega arith) in
    let n = count_by-le-length (same k) ys in
    step (count_of k ys) (count_of k (ys ++ x ∷ [])) a b (cond (same k x) 1 0) (at_most_one (same k x)) e is (sum_by-append (λ (v : Condition). cond (same k v) 1 0) ys (x ∷ [])) (omega arith)
  where
    at_most_one : (t : Bool) → cond t 1 0 ≤ 1
    at_most_one true = omega arith
    at_most_one false = omega arith

    step : (m n a b d : ℕ) → d ≤ 1 → b ≡ (a + d) % 18446744073709551616 → a ≡ m → n ≡ m + (0 + d) → m < 18446744073709551615 → b ≡ n
    step m n a b d one e is sum few = omega arith

counts : (c : goal.After-fold) → Counts c.args.wanted c.args.conditions.now c.fold.result
counts c = subst (λ (xs : List Condition). Counts c.args.wanted xs c.fold.result) c.iter.ensures.rest
    (fold_over fronts (λ (y : Bor Condition). y.now) _ (Counts c.args.wanted) _ (λ ys a x b f' j k. (more _ ys a b x.now j (search rules), search rules)) c.iter.result _ _ _ (slice_gives c.iter.result) (λ h. refl) c.fold.ensures.ran)

pub returns-clause-value : goal.returns-clause-value
returns-clause-value c = counts c (omega arith)

pub returns-clause-bound : goal.returns-clause-bound
returns-clause-bound c = let n = count_by-le-length (same c.args.wanted) c.args.conditions.now in let e = counts c (omega arith) in omega arith
