-- What a home's bytes tell of it.
use Rattle.std.proofs.Common.{◌≡◌, ℕ, ◌<◌, ◌^◌, List, drop, refl, ap, sym, ◌∙◌}
use Rattle.std.proofs.lemmas.Nat.{from_le_bytes-to_le_bytes_4}
use Rattle.layout.specs.Numbers.{four_at}
use Rattle.layout.specs.Homes.{home_bytes}

-- the number of the sector stands in bytes 4 to 7
pub sector-home_bytes : (s : ℕ) (body : List ℕ) → s < 2 ^ 32 → four_at (home_bytes s body) 4 ≡ s
unfolding home_bytes four_at
sector-home_bytes s body h = from_le_bytes-to_le_bytes_4 s h

-- the body from byte 12 on
pub body-home_bytes : (s : ℕ) (body : List ℕ) → drop 12 (home_bytes s body) ≡ body
unfolding home_bytes
body-home_bytes s body = refl

-- one home's bytes are no other's
pub one_home : (s s' : ℕ) (body body' : List ℕ) → s < 2 ^ 32 → s' < 2 ^ 32 → home_bytes s body ≡ home_bytes s' body'
    → (s ≡ s') × (body ≡ body')
one_home s s' body body' hs hs' h = (
  sym (sector-home_bytes s body hs) ∙ ap (λ b. four_at b 4) h ∙ sector-home_bytes s' body' hs',
  sym (body-home_bytes s body) ∙ ap (drop 12) h ∙ body-home_bytes s' body',
)
