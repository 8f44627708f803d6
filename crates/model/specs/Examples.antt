-- Worked examples about the definitions of a card and of the size rule, as one table. An image is any that fits what an example
-- says of it. Assumes nothing.
use Rattle.std.specs.Prelude.{◌≡◌, ℕ, ◌+◌, ◌^◌, ◌<◌, true, false, [], ◌∷◌, replicate}
use Rattle.crc32c.specs.Examples.{WorkedExamples as ChecksumExamples}
use Rattle.device.specs.Sector.{payload, torn, Image}
use Rattle.layout.specs.declared.class.Class.TheVariants.{Two, Five, Ten}
use Rattle.layout.specs.declared.header.Header.{Header}
use Rattle.layout.specs.Classes.{code_of}
use Rattle.layout.specs.Handles.{handle_of, sector_of, slot_of}
use Rattle.layout.specs.Bodies.{marks}
use Rattle.layout.specs.Records.{commit_record_bytes}
use Rattle.image.specs.Headers.{IsHeaderAt, IsHeaderOf}
use Rattle.image.specs.Logs.{In, Change, IsLog}
use Rattle.image.specs.Reading.{IsPageRecordAt}
use Rattle.model.specs.Sizes.{IsClassFor}

-- epoch 4 in sector 0
abbrev pub FourInZero : ℕ → Image → Header → Type 0
FourInZero n σ h = IsHeaderAt n σ 0 h × (h.epoch ≡ 4)

-- a page record in positions 0 and 1, a commit record in position 2 that counts two, and a torn sector behind it
pub record TwoAndCommit (σ : Image) (h : Header) (a b : Change) : Type 0 where
  pub first : IsPageRecordAt σ h 0 a
  pub second : IsPageRecordAt σ h 1 b
  pub commit : σ 4 ≡ payload (commit_record_bytes h.epoch 2 2 (h.transactions + 1))
  pub behind : σ 5 ≡ torn

-- a page record in position 0, a torn sector, and a commit record in position 2 that counts one
pub record TornAndCommit (σ : Image) (h : Header) (a : Change) : Type 0 where
  pub first : IsPageRecordAt σ h 0 a
  pub second : σ 3 ≡ torn
  pub commit : σ 4 ≡ payload (commit_record_bytes h.epoch 2 1 (h.transactions + 1))

pub record WorkedExamples : Type 0 where
  -- the checksums of 32 zero bytes and of "123456789"
  pub checksums : ChecksumExamples
  -- four words take class 4, six words class 5
  pub four_words : IsClassFor 4 Five × (code_of Five ≡ 4)
  pub six_words : IsClassFor 6 Ten × (code_of Ten ≡ 5)
  -- slot 0 of sector 12 has handle 192
  pub handle : ((handle_of 12 0).0 ≡ 192)
      × (sector_of (handle_of 12 0) ≡ 12) × (slot_of (handle_of 12 0) ≡ 0)
  -- class 2 with slots 0 and 1 used has head word 2051
  pub head_word : marks (true ∷ true ∷ replicate 8 false) (code_of Two) ≡ 2051
  -- epoch 4 in sector 0 and 5 in sector 1: 5
  pub greater_epoch : (n : ℕ) (σ : Image) (g h : Header)
      → FourInZero n σ g → IsHeaderAt n σ 1 h → h.epoch ≡ 5 → IsHeaderOf n σ h
  -- with sector 1 torn: 4
  pub other_torn : (n : ℕ) (σ : Image) (g : Header)
      → FourInZero n σ g → σ 1 ≡ torn → IsHeaderOf n σ g
  -- page, page, commit n = 2: both
  pub both : (σ : Image) (h : Header) (a b : Change)
      → h.transactions + 1 < 2 ^ 32 → TwoAndCommit σ h a b → IsLog (In σ) h ((a ∷ b ∷ []) ∷ [])
  -- page, torn, commit n = 1: none
  pub none : (σ : Image) (h : Header) (a : Change) → TornAndCommit σ h a → IsLog (In σ) h []
