-- What is found of a device after its power was cut. Assumes nothing.
use Rattle.std.specs.Prelude.{◌≡◌, ℕ, ◌<◌}
use Rattle.device.specs.Sector.{Content}
use Rattle.device.specs.Rules.{Meaning}

-- A device that means m was cut, and one that means m' is found: it has the same count, and in each sector a content that was possible,
-- which is then its only possible one. Contents past the count mean nothing.
pub record IsFoundOf (m m' : Meaning) : Type 0 where
  pub count : m'.count ≡ m.count
  pub found : (s : ℕ) → s < m.count → m.possible s (m'.current s)
  pub only : (s : ℕ) (c : Content) → s < m.count → m'.possible s c → c ≡ m'.current s
