-- Calls that only read a device, d before and d' after; g is what the type of device says. Of each it is said which sectors are read, one
-- after another. Assumes nothing.
use Rattle.std.specs.Prelude.{◌≡◌, ℕ, true, List, Result, MatchResult}
use Rattle.device.specs.declared.Device.{Ghosts}
use Rattle.device.specs.Sector.{Image}
use Rattle.device.specs.Calling.{reads, Ran, Stopped}
use Rattle.image.specs.declared.reading.Off.{Off}
use Rattle.image.specs.declared.refusal.ImageRefusal.{ImageRefusal}
use Rattle.image.specs.declared.refusal.StageError.{StageError}
use Rattle.image.specs.declared.refusal.StageError.TheVariants.{Off as TurnedOff, NoHeap}

module _ {D : Type 0} (g : Ghosts D) (d d' : D) where
  -- one read of each of these sectors, in this order, and no other call; none answers 1, and P is so of their list
  abbrev pub Looked : (List ℕ → Type 0) → Type 0
  Looked P = (ss : List ℕ) × Ran g (reads ss) d d' × P ss

  -- a beginning of such reads, and no other call: the last one made answers 1, and none before it
  abbrev pub LookedTillOff : (List ℕ → Type 0) → Type 0
  LookedTillOff P = (ss : List ℕ) × Stopped g (reads ss) d d' × P ss

  -- The call reads, the device is on, and T is so of the sectors that were read, of the image that the device showed before, by its count
  -- and its contents, and of the answer. Or the call answers that the device is off, since its last read was answered so: P is so of what
  -- was to be read.
  abbrev pub TellsBy : {A : Type 0} → (List ℕ → Type 0) → (List ℕ → ℕ → Image → A → Type 0)
      → Result A Off → Type 0
  TellsBy P T r = MatchResult r
      (λ a. (g.on d' ≡ true) × Looked (λ ss. T ss (g.count d) (g.current d) a))
      (λ _. LookedTillOff P)

  -- why a call fails: its last read was answered so, or E is so of what was read, of the image, and of its refusal
  abbrev pub Fails : (List ℕ → Type 0) → (List ℕ → ℕ → Image → ImageRefusal → Type 0)
      → StageError → Type 0
  Fails P E TurnedOff = LookedTillOff P
  Fails P E (NoHeap q) = (g.on d' ≡ true) × Looked (λ ss. E ss (g.count d) (g.current d) q)

  -- The same of a call that may refuse the image.
  abbrev pub FindsBy : {A : Type 0} → (List ℕ → Type 0) → (List ℕ → ℕ → Image → A → Type 0)
      → (List ℕ → ℕ → Image → ImageRefusal → Type 0) → Result A StageError → Type 0
  FindsBy P T E r = MatchResult r
      (λ a. (g.on d' ≡ true) × Looked (λ ss. T ss (g.count d) (g.current d) a))
      (Fails P E)

  -- The same where P alone says what is read, whatever the answer.
  abbrev pub Tells : {A : Type 0} → (List ℕ → Type 0) → (ℕ → Image → A → Type 0)
      → Result A Off → Type 0
  Tells P T r = TellsBy P (λ ss n σ a. P ss × T n σ a) r

  abbrev pub Finds : {A : Type 0} → (List ℕ → Type 0) → (ℕ → Image → A → Type 0)
      → (ℕ → Image → ImageRefusal → Type 0) → Result A StageError → Type 0
  Finds P T E r = FindsBy P (λ ss n σ a. P ss × T n σ a) (λ ss n σ q. P ss × E n σ q) r
