-- Which calls a device gets, one after another. g is what a type of device says of its devices and of its own calls: over any
-- device these are opaque, so that a call that is told of was made. Assumes nothing.
use Rattle.std.specs.Prelude.{◌≡◌, ◌≢◌, ℕ, zero, suc, ◌+◌, false, ◌⊎◌, List, [], ◌∷◌, ◌++◌, Err}
use Rattle.device.specs.declared.Device.{Ghosts}
use Rattle.device.specs.declared.fault.Fault.TheVariants.{Off}
use Rattle.device.specs.Faults.{Answer}
use Rattle.device.specs.Rules.{Meaning, ReadCall, WriteCall, FlushCall, CountStays, Unchanged}
use Rattle.device.specs.Means.{means}

-- a call: of a sector, of a sector and the bytes for it, or of all that waits
pub data Call : Type 0 where
  read : ℕ → Call
  write : ℕ → List ℕ → Call
  flush : Call

-- one read of each of these sectors
abbrev pub reads : List ℕ → List Call
reads [] = []
reads (s ∷ ss) = read s ∷ reads ss

-- f 0, f 1 and so on, k of them
abbrev pub each : (ℕ → ℕ) → ℕ → List ℕ
each f zero = []
each f (suc k) = each f k ++ f k ∷ []

-- k sectors from a on, in order
abbrev pub sectors_from : ℕ → ℕ → List ℕ
sectors_from a k = each (λ i. a + i) k

-- what reads leave of a device, however many
pub record OnlyReads (m m' : Meaning) : Type 0 where
  pub count : CountStays m m'
  pub contents : Unchanged m m'
  pub stays_off : m.on ≡ false → m'.on ≡ false

module _ {D : Type 0} (g : Ghosts D) where
  -- the call takes d to d' and answers r
  abbrev pub Called : Call → Answer → D → D → Type 0
  Called (read s) r d d' = (x : List ℕ) × ((y : List ℕ)
      × ReadCall s x y r (means g d) (means g d') × g.reads d s x y r d')
  Called (write s b) r d d' = WriteCall s b r (means g d) (means g d') × g.writes d s b r d'
  Called flush r d d' = FlushCall r (means g d) (means g d') × g.flushes d r d'

  -- these calls are made, in this order, and no other; none answers 1
  abbrev pub Ran : List Call → D → D → Type 0
  Ran [] d d' = d' ≡ d
  Ran (c ∷ cs) d d' = (e : D) × ((r : Answer) × Called c r d e × (r ≢ Err Off) × Ran cs e d')

  -- the first of these calls are made, in this order, and no other; the last one made answers 1, and none before it
  abbrev pub Stopped : List Call → D → D → Type 0
  Stopped [] d d' = ⊥
  Stopped (c ∷ cs) d d' = Called c (Err Off) d d'
      ⊎ ((e : D) × ((r : Answer) × Called c r d e × (r ≢ Err Off) × Stopped cs e d'))
