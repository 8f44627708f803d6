-- What a position of the log is found to hold.
-- Assumes nothing.
use Rattle.std.specs.Prelude.{◌≡◌, ℕ, ◌+◌, ◌^◌, ◌<◌, ◌≤◌, List}
use Rattle.device.specs.Sector.{payload, Image}
use Rattle.layout.specs.declared.header.Header.{Header}
use Rattle.layout.specs.Records.{commit_record_bytes, most_records}
use Rattle.image.specs.declared.entry.Entry.{Entry}
use Rattle.image.specs.declared.entry.Entry.TheVariants.{Page, Commit, End}
use Rattle.image.specs.Logs.{Change}
use Rattle.image.specs.Reading.{IsPageRecordAt, Ends}

-- a page record of this epoch and position; a commit record of these; or something at which reading ends, whatever was read before
abbrev pub IsEntryAt : Image → Header → ℕ → Entry → Type 0
IsEntryAt σ h p (Page s) = (c : Change) × IsPageRecordAt σ h p c × (c.home ≡ s)
IsEntryAt σ h p (Commit n k) = (n ≤ most_records) × (n < 2 ^ 32) × (k < 2 ^ 32)
    × (σ (2 + p) ≡ payload (commit_record_bytes h.epoch p n k))
IsEntryAt σ h p End = (ts : List (List Change)) (t : List Change) → Ends σ h p ts t
