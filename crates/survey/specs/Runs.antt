-- Runs of neighbouring sectors in one condition.
-- Assumes nothing.
use Rattle.std.specs.Prelude.{◌≡◌, ℕ, ◌+◌, ◌-◌, ◌<◌, ◌≤◌, cond, List, [], ◌∷◌, length, drop, ◌==◌, Some, None, Option, MatchOption, ◌≢◌}
use Rattle.survey.specs.declared.condition.Condition.{Condition}
use Rattle.survey.specs.declared.condition.Run.{Run}
use Rattle.survey.specs.declared.runs.Runs.{Runs}
use Rattle.survey.specs.Conditions.{at, same}

-- the first run of condition k among the sectors from `from` on: none earlier of them is in condition k, and the run ends
-- where a sector in another condition follows, or the table ends
pub record FirstRun (xs : List Condition) (k : Condition) (from : ℕ) (r : Run) : Type 0 where
  pub later : from ≤ r.first
  pub order : r.first ≤ r.last
  pub within : r.last < length xs
  pub all : (s : ℕ) → r.first ≤ s → s ≤ r.last → at xs s ≡ k
  pub before : (s : ℕ) → from ≤ s → s < r.first → at xs s ≢ k
  pub ends : r.last + 1 < length xs → at xs (r.last + 1) ≢ k

-- that run, or none where no sector from `from` on is in condition k
abbrev pub NextRun : List Condition → Condition → ℕ → Option Run → Type 0
NextRun xs k from (Some r) = FirstRun xs k from r
NextRun xs k from None = (s : ℕ) → from ≤ s → s < length xs → at xs s ≢ k

-- n before the runs of the sectors behind it: it joins the first of them, or is a run of its own
abbrev pub joins_runs : ℕ → List Run → List Run
joins_runs n [] = record { first = n; last = n } ∷ []
joins_runs n (r ∷ rs) = cond (r.first == n + 1)
    (record { first = n; last = r.last } ∷ rs)
    (record { first = n; last = n } ∷ r ∷ rs)

-- all runs of condition k in a table, in order, where n is the number of its first sector
unfoldable pub runs_in : Condition → ℕ → List Condition → List Run
runs_in k n [] = []
runs_in k n (x ∷ xs) = cond (same k x) (joins_runs n (runs_in k (n + 1) xs)) (runs_in k (n + 1) xs)

-- an iterator that has left the runs of condition k among the sectors from `from` on
abbrev pub LooksFrom : Runs → List Condition → Condition → ℕ → Type 0
LooksFrom runs xs k from = (runs.conditions.now ≡ xs) × (runs.wanted ≡ k) × (runs.from ≡ from)

-- the runs that an iterator has left
abbrev pub runs_left : Runs → List Run
runs_left runs = runs_in runs.wanted runs.from (drop runs.from runs.conditions.now)

-- how many sectors it has yet to look at
abbrev pub sectors_left : Runs → ℕ
sectors_left runs = length runs.conditions.now - runs.from

-- it gives the next run and goes on behind it; where none is left it stays as it is
abbrev pub GivesRun : Runs → Option Run → Runs → Type 0
GivesRun old r new = NextRun old.conditions.now old.wanted old.from r
    × MatchOption r (new ≡ old)
    (λ run. LooksFrom new old.conditions.now old.wanted (run.last + 1))
