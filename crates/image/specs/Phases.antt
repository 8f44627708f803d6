-- Lists of sectors that are read, in order. Assumes nothing.
use Rattle.std.specs.Prelude.{◌≡◌, ℕ, ◌<◌, ◌≤◌, List, ◌++◌}
use Rattle.device.specs.Calling.{each}

-- exactly these
abbrev pub Just : List ℕ → List ℕ → Type 0
Just ss ts = ts ≡ ss

-- the first of f 0, f 1 .. f (n - 1), one at least
abbrev pub SomeOf : (ℕ → ℕ) → ℕ → List ℕ → Type 0
SomeOf f n ts = (k : ℕ) × (0 < k) × (k ≤ n) × (ts ≡ each f k)

-- all of them twice
abbrev pub twice : (ℕ → ℕ) → ℕ → List ℕ
twice f n = each f n ++ each f n
