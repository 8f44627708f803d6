-- Which images a cut can leave after a call, and after two writes and a flush, and which calls those are.
-- Assumes nothing.
use Rattle.std.specs.Prelude.{◌≡◌, ℕ, ◌<◌, ◌≤◌, ◌⊎◌, ◌↔◌, List, Ok, ◌≢◌}
use Rattle.device.specs.declared.Device.{Ghosts}
use Rattle.device.specs.Faults.{Answer, returned}
use Rattle.device.specs.Sector.{payload, torn, Image, Possible, Found}
use Rattle.device.specs.Rules.{Meaning, CountStays, StaysOff, TellsPower, Unchanged, Puts, Settled}

-- σ is τ, but for sector s
abbrev pub SameBut : ℕ → Image → Image → Type 0
SameBut s τ σ = (t : ℕ) → (t ≢ s) → σ t ≡ τ t

-- a cut leaves the same images as before
abbrev pub SameFound : Possible → Possible → Type 0
SameFound p q = (σ : Image) → Found p σ ↔ Found q σ

-- a cut leaves no image but f (that it leaves one is a law)
abbrev pub OneFound : Possible → Image → Type 0
OneFound p f = (σ : Image) → Found p σ → (s : ℕ) → σ s ≡ f s

-- an image of F in which the write of b to sector s happened, did not happen, or tore the sector
abbrev pub MaybeWritten : ℕ → List ℕ → (Image → Type 0) → Image → Type 0
MaybeWritten s b F σ = (τ : Image) × F τ × SameBut s τ σ
    × ((σ s ≡ τ s) ⊎ ((σ s ≡ payload b) ⊎ (σ s ≡ torn)))

-- g is f with a in sector s, and then b in sector t
abbrev pub PutsBoth : ℕ → List ℕ → ℕ → List ℕ → Image → Image → Type 0
PutsBoth s a t b f g = (h : Image) × Puts s a f h × Puts t b h g

-- The calls that are made for it on a device, d before and d' after: the first write, if it is accepted the second, and if that is the
-- flush; the answer is the last one's.
abbrev pub MakesBoth : {D : Type 0} → Ghosts D → ℕ → List ℕ → ℕ → List ℕ → Answer → D → D → Type 0
MakesBoth {D} g s a t b r d d' = ((r ≢ Ok tt) × g.writes d s a r d')
    ⊎ ((e : D) × g.writes d s a (Ok tt) e
    × (((r ≢ Ok tt) × g.writes e t b r d')
    ⊎ ((f : D) × g.writes e t b (Ok tt) f × g.flushes f r d')))

-- Two writes and a flush. Accepted, each of the two sectors has its payload as the current content, or where both are one sector that has
-- the second; and a cut leaves the current image, and no other. The device is off exactly if the answer is 1. With a sector that is not
-- below the count, and only then, the answer is 2, unless it is 1: if it is the first, nothing is changed and a cut leaves the same images
-- as before; else the first payload is current. Whatever the answer, a cut leaves an image that could be found before, in which each of
-- the two writes happened, did not happen or tore its sector.
pub record WritesBoth (s : ℕ) (a : List ℕ) (t : ℕ) (b : List ℕ) (r : Answer) (m m' : Meaning)
    : Type 0 where
  pub count : CountStays m m'
  pub power : TellsPower r m'
  pub off : StaysOff r m m'
  pub past : (m.count ≤ s) ⊎ (m.count ≤ t) → (returned r ≡ 2) ⊎ (returned r ≡ 1)
  pub refused : returned r ≡ 2
      → ((m.count ≤ s) × Unchanged m m' × SameFound m.possible m'.possible)
      ⊎ ((s < m.count) × (m.count ≤ t) × Puts s a m.current m'.current)
  pub below : s < m.count → t < m.count → (returned r ≡ 0) ⊎ (returned r ≡ 1)
  pub accepted : returned r ≡ 0 → (s < m.count) × (t < m.count)
      × PutsBoth s a t b m.current m'.current × Settled m'.current m'.possible
  pub one : returned r ≡ 0 → OneFound m'.possible m'.current
  pub leaves : (σ : Image) → Found m'.possible σ
      → MaybeWritten t b (MaybeWritten s a (Found m.possible)) σ
