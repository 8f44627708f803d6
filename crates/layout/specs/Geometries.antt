-- How a card is divided: sectors 0 and 1 are headers, then comes the log, then the root page, then data pages up to the end.
-- Assumes nothing.
use Rattle.std.specs.Prelude.{ℕ, ◌+◌, ◌<◌, ◌≤◌}
use Rattle.layout.specs.declared.geometry.Geometry.{Geometry}

-- n sectors with a log of l are within the limits of the format
abbrev pub Within : ℕ → ℕ → Type 0
Within n l = (9 ≤ l) × (l ≤ 64) × (l + 4 ≤ n) × (n ≤ 1024)

-- the sector of the root page
abbrev pub root_of : Geometry → ℕ
root_of g = g.log + 2

-- sector s is the home of a page
abbrev pub IsPage : Geometry → ℕ → Type 0
IsPage g s = (root_of g ≤ s) × (s < g.sectors)
