-- The header of an image.
-- Assumes nothing.
use Rattle.std.specs.Prelude.{◌≡◌, ℕ, ◌+◌, ◌-◌, ◌%◌, ◌<◌, ◌≤◌, List}
use Rattle.device.specs.Sector.{Content, payload, Image}
use Rattle.device.specs.Calling.{each}
use Rattle.layout.specs.declared.geometry.Geometry.{Geometry}
use Rattle.layout.specs.declared.header.Header.{Header}
use Rattle.layout.specs.Numbers.{four_at}
use Rattle.layout.specs.RecordBytes.{HasRecordByte}
use Rattle.layout.specs.Headers.{header_bytes, IsValidIn}
use Rattle.image.specs.declared.refusal.ImageRefusal.{ImageRefusal}
use Rattle.image.specs.declared.refusal.ImageRefusal.TheVariants.{LaterEpoch}

-- sector s of a device with n sectors holds the header h, and it is valid there
abbrev pub IsHeaderAt : ℕ → Image → ℕ → Header → Type 0
IsHeaderAt n σ s h = IsValidIn s n h × (σ s ≡ payload (header_bytes h))

-- h stands in a header sector of the image σ of a device with n sectors, and is valid there
abbrev pub IsHeaderIn : ℕ → Image → Header → Type 0
IsHeaderIn n σ h = IsHeaderAt n σ (h.epoch % 2) h

-- it is the one with the greater epoch: the header of the image
pub record IsHeaderOf (n : ℕ) (σ : Image) (h : Header) : Type 0 where
  pub valid : IsHeaderIn n σ h
  pub newest : (g : Header) → IsHeaderIn n σ g → g.epoch ≤ h.epoch

-- a sector with the first byte of a record, and above e as the number where a record has its epoch; nothing else of it counts
abbrev pub IsLater : ℕ → Content → Type 0
IsLater e c = (b : List ℕ) × (c ≡ payload b) × HasRecordByte b × (e < four_at b 4)

-- sector s is in the log
abbrev pub InLog : Geometry → ℕ → Type 0
InLog g s = (2 ≤ s) × (s < 2 + g.log)

-- no sector of the log shows an epoch above the header's
abbrev pub NoneLater : Image → Header → Type 0
NoneLater σ h = (s : ℕ) → InLog h.geometry s → ¬ IsLater h.epoch (σ s)

-- s is the lowest sector of the log that does
pub record FirstLater (σ : Image) (h : Header) (s : ℕ) : Type 0 where
  pub inside : InLog h.geometry s
  pub later : IsLater h.epoch (σ s)
  pub before : (t : ℕ) → InLog h.geometry t → t < s → ¬ IsLater h.epoch (σ t)

-- position i of the log stands in this sector
abbrev pub log_sector : ℕ → ℕ
log_sector i = 2 + i

-- sector s is one of a card of n sectors, and shows an epoch above e
abbrev pub ShowsLater : ℕ → ℕ → Image → ℕ → Type 0
ShowsLater e n σ s = (s < n) × IsLater e (σ s)

-- The sectors ss of the log under h were read: up to s, which shows a later epoch and is the lowest that does, or all, and none does. A
-- card that has not as many sectors as h says lacks some of them.
abbrev pub FindsLater : Header → List ℕ → ℕ → Image → ℕ → Type 0
FindsLater h ss n σ s = InLog h.geometry s × (ss ≡ each log_sector (s - 1))
    × ShowsLater h.epoch n σ s
    × ((t : ℕ) → InLog h.geometry t → t < s → ¬ ShowsLater h.epoch n σ t)

abbrev pub FindsNoneLater : Header → List ℕ → ℕ → Image → Type 0
FindsNoneLater h ss n σ = (ss ≡ each log_sector h.geometry.log)
    × ((t : ℕ) → InLog h.geometry t → ¬ ShowsLater h.epoch n σ t)

-- q tells of such a sector
abbrev pub TellsLater : Header → List ℕ → ℕ → Image → ImageRefusal → Type 0
TellsLater h ss n σ q = (s : ℕ) × (q ≡ LaterEpoch s) × FindsLater h ss n σ s
