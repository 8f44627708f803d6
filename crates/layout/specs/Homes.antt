-- The bytes of a home: its own sector number, and the body of the page that lives there.
-- Assumes nothing.
use Rattle.std.specs.Prelude.{ℕ, List, ◌∷◌, [], ◌++◌}
use Rattle.layout.specs.Numbers.{four, zeros}
use Rattle.layout.specs.Kinds.{home_kind}

unfoldable pub home_bytes : ℕ → List ℕ → List ℕ
home_bytes s body = home_kind ∷ 0 ∷ 0 ∷ 0 ∷ [] ++ four s ++ zeros 4 ++ body
