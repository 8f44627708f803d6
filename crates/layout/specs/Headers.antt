-- The bytes of a header, and where it is valid.
-- Assumes nothing.
use Rattle.std.specs.Prelude.{◌≡◌, ℕ, ◌%◌, List, ◌∷◌, [], ◌++◌}
use Rattle.layout.specs.declared.header.Header.{Header}
use Rattle.layout.specs.Numbers.{two, four, zeros}
use Rattle.layout.specs.Kinds.{header_kind, edition}

unfoldable pub header_bytes : Header → List ℕ
header_bytes h = header_kind ∷ edition ∷ [] ++ two h.geometry.log ++ four h.epoch
    ++ four h.geometry.sectors ++ four h.transactions ++ zeros 44

-- valid in sector s of a device with n sectors
abbrev pub IsValidIn : ℕ → ℕ → Header → Type 0
IsValidIn s n h = (h.geometry.sectors ≡ n) × (h.epoch % 2 ≡ s)
