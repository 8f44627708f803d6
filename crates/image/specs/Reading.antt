-- The log read sector by sector, and each way in which reading ends.
-- Assumes nothing.
use Rattle.std.specs.Prelude.{◌≡◌, ◌≢◌, ℕ, zero, suc, ◌+◌, ◌^◌, ◌<◌, ◌≤◌, min, ◌⊎◌, ◌↔◌, List, [], ◌∷◌, ◌++◌, length}
use Rattle.device.specs.Sector.{payload, torn, Image}
use Rattle.layout.specs.declared.header.Header.{Header}
use Rattle.layout.specs.Geometries.{IsPage}
use Rattle.layout.specs.Records.{page_record_bytes, commit_record_bytes, IsNoRecord, most_records}
use Rattle.device.specs.Calling.{each}
use Rattle.image.specs.Headers.{log_sector}
use Rattle.image.specs.Logs.{In, Change, next_number, IsLog}

-- at position p stands a page record of the header's epoch and this position, which says c
abbrev pub IsPageRecordAt : Image → Header → ℕ → Change → Type 0
IsPageRecordAt σ h p c = IsPage h.geometry c.home
    × (σ (2 + p) ≡ payload (page_record_bytes h.epoch p c.home c.body))

-- at position p stands a commit record of the header's epoch and this position that makes the page records t the transaction after ts
abbrev pub CommitsAt : Image → Header → ℕ → List (List Change) → List Change → Type 0
CommitsAt σ h p ts t = (length t ≤ most_records) × (next_number h ts < 2 ^ 32)
    × (σ (2 + p) ≡ payload (commit_record_bytes h.epoch p (length t) (next_number h ts)))

-- p positions are read: the transactions ts are committed, and the page records t stand since the last commit record or the log's start
abbrev pub Reading : Image → Header → ℕ → List (List Change) → List Change → Type 0
Reading σ h zero ts t = (ts ≡ []) × (t ≡ [])
Reading σ h (suc p) ts t = (p < h.geometry.log)
    × (((u : List Change) × ((c : Change)
    × Reading σ h p ts u × IsPageRecordAt σ h p c × (t ≡ u ++ c ∷ [])))
    ⊎ ((us : List (List Change)) × ((u : List Change)
    × Reading σ h p us u × CommitsAt σ h p us u × (ts ≡ u ∷ us) × (t ≡ []))))

-- the bytes are those of a record, of either kind, of epoch e and position q
abbrev pub IsRecordOf : List ℕ → ℕ → ℕ → Type 0
IsRecordOf b e q = (e < 2 ^ 32) × (q < 2 ^ 16)
    × (((s : ℕ) × ((body : List ℕ) × (b ≡ page_record_bytes e q s body)))
    ⊎ ((n : ℕ) × ((k : ℕ) × (b ≡ commit_record_bytes e q n k))))

-- reading ends before position p, with that much read
pub data Ends (σ : Image) (h : Header) (p : ℕ) (ts : List (List Change)) (t : List Change)
    : Type 0 where
  whole_log : p ≡ h.geometry.log → Ends σ h p ts t
  torn_sector : σ (2 + p) ≡ torn → Ends σ h p ts t
  no_record : (b : List ℕ) → σ (2 + p) ≡ payload b → IsNoRecord h.geometry b → Ends σ h p ts t
  other_epoch : (b : List ℕ) (e q : ℕ) → σ (2 + p) ≡ payload b → IsRecordOf b e q → e ≢ h.epoch
      → Ends σ h p ts t
  other_position : (b : List ℕ) (e q : ℕ) → σ (2 + p) ≡ payload b → IsRecordOf b e q → q ≢ p
      → Ends σ h p ts t
  wrong_count : (n k : ℕ) → n < 2 ^ 32 → σ (2 + p) ≡ payload (commit_record_bytes h.epoch p n k)
      → n ≢ length t → Ends σ h p ts t
  wrong_number : (n k : ℕ) → k < 2 ^ 32 → σ (2 + p) ≡ payload (commit_record_bytes h.epoch p n k)
      → k ≢ next_number h ts → Ends σ h p ts t

-- The log is read to its end with the transactions ts committed.
abbrev pub ReadsTo : Image → Header → List (List Change) → Type 0
ReadsTo σ h ts = (p : ℕ) × ((t : List Change) × Reading σ h p ts t × Ends σ h p ts t)

-- The log is read so, and ss are the sectors that were read for it: up to that in which reading ends, or to the log's end.
abbrev pub ReadsInOrder : Image → Header → List (List Change) → List ℕ → Type 0
ReadsInOrder σ h ts ss = (p : ℕ) × ((t : List Change) × Reading σ h p ts t × Ends σ h p ts t
    × (ss ≡ each log_sector (min (p + 1) h.geometry.log)))

-- Reading sector by sector comes to the log's meaning, and to no other transactions.
abbrev pub ReadsAsMeant : Type 0
ReadsAsMeant = (σ : Image) (h : Header) (ts : List (List Change))
    → IsLog (In σ) h ts ↔ ReadsTo σ h ts
