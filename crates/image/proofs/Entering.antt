-- What a position of the log is, by the record that its bytes are.
-- Assumes nothing.
use Rattle.std.proofs.Common.{◌≡◌, ◌≢◌, ℕ, ◌+◌, ◌^◌, ◌<◌, ◌⊎◌, List, inl, inr}
use Rattle.device.specs.Sector.{payload, Image}
use Rattle.layout.specs.declared.header.Header.{Header}
use Rattle.layout.specs.Geometries.{IsPage}
use Rattle.layout.specs.Records.{page_record_bytes, commit_record_bytes}
use Rattle.image.specs.declared.entry.Entry.TheVariants.{Page, End}
use Rattle.image.specs.Reading.{other_epoch, other_position}
use Rattle.image.specs.Entries.{IsEntryAt}

module _ (σ : Image) (h : Header) (p : ℕ) (b : List ℕ) (e q : ℕ) (here : σ (2 + p) ≡ payload b) where
  pub page_entry : (s : ℕ) (body : List ℕ) → e ≡ h.epoch → q ≡ p → IsPage h.geometry s → page_record_bytes e q s body ≡ b → IsEntryAt σ h p (Page s)
  page_entry s body x y inside same = (record { home = s; body = body }, (inside, cc), cc)

  -- a record of another epoch or another position
  pub other_entry : e < 2 ^ 32 → q < 2 ^ 16 → ((s : ℕ) × ((body : List ℕ) × (b ≡ page_record_bytes e q s body))) ⊎ ((n : ℕ) × ((k : ℕ) × (b ≡ commit_record_bytes e q n k)))
      → (e ≢ h.epoch) ⊎ (q ≢ p) → IsEntryAt σ h p End
  other_entry f g r (inl ne) = λ ts t. other_epoch b e q here (f, g, r) ne
  other_entry f g r (inr ne) = λ ts t. other_position b e q here (f, g, r) ne
