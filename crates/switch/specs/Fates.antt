-- What comes of each call on a switch, and how its fuse counts them.
-- Assumes nothing.
use Rattle.std.specs.Prelude.{◌≡◌, ℕ, zero, suc, ◌+◌, ◌<◌, ◌≤◌, Bool, true, false, ◌⊎◌}
use Rattle.switch.specs.declared.fuse.Fate.{Fate}
use Rattle.switch.specs.declared.fuse.Fate.TheVariants.{Refused, Cut, Passed}
use Rattle.switch.specs.declared.fuse.Fuse.{Fuse}
use Rattle.switch.specs.declared.fuse.Fuse.TheVariants.{Blown, Lasting, After}

-- the fuse of a new switch that is to turn off within its k-th call, counted from 1: no call is the 0th
abbrev pub fuse_for : ℕ → Fuse
fuse_for zero = Lasting
fuse_for (suc before) = After before

-- a switch is off once its fuse has blown
abbrev pub is_on : Fuse → Bool
is_on Blown = false
is_on Lasting = true
is_on (After _) = true

-- what comes of the next call: an off switch refuses it, one that turns off after no further call turns off within it,
-- and any other passes it on
abbrev pub fate : Fuse → Fate
fate Blown = Refused
fate Lasting = Passed
fate (After zero) = Cut
fate (After (suc _)) = Passed

-- a call takes f to f': one that is passed on is counted, the one that is cut blows the fuse, and a blown fuse stays so
abbrev pub CountsDown : Fuse → Fuse → Type 0
CountsDown Blown f' = f' ≡ Blown
CountsDown Lasting f' = f' ≡ Lasting
CountsDown (After zero) f' = f' ≡ Blown
CountsDown (After (suc calls)) f' = f' ≡ After calls

-- n calls take f to f'
abbrev pub AfterCalls : ℕ → Fuse → Fuse → Type 0
AfterCalls zero f f' = f' ≡ f
AfterCalls (suc n) f f' = (g : Fuse) × CountsDown f g × AfterCalls n g f'

-- What is so after n calls on a switch that is to turn off within its k-th, or never if k is 0, where f is its fuse then:
-- whether it has not turned off, and what comes of the next call.
pub record Planned (k n : ℕ) (f : Fuse) : Type 0 where
  pub on : (k ≡ 0) ⊎ (n < k) → is_on f ≡ true
  pub off : 0 < k → k ≤ n → is_on f ≡ false
  pub passed : (k ≡ 0) ⊎ (n + 1 < k) → fate f ≡ Passed
  pub cut : n + 1 ≡ k → fate f ≡ Cut
  pub refused : 0 < k → k ≤ n → fate f ≡ Refused
