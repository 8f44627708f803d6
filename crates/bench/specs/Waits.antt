-- Writes that are made durable in the rows of a bench, oldest first.
-- Assumes nothing.
use Rattle.std.specs.Prelude.{◌≡◌, ℕ, ◌<◌, ◌≤◌, cond, List, [], ◌∷◌, length, take, Ok, nat_lt}
use Rattle.device.specs.declared.pending.PendingWrite.{PendingWrite}
use Rattle.device.specs.Sector.{IsPayload}
use Rattle.device.specs.Rules.{WriteCall}
use Rattle.device.specs.Memory.{row_count, with_row}
use Rattle.bench.specs.Rows.{readable, rows_mean}

-- memory m with the write w made durable, if there is such a sector
abbrev pub stored : PendingWrite → List ℕ → List ℕ
stored w m = cond (nat_lt w.sector (row_count 61 m)) (with_row 61 m w.sector (readable w.bytes)) m

-- the write w takes memory m to m'
pub record MakesDurable (w : PendingWrite) (m m' : List ℕ) : Type 0 where
  pub whole : IsPayload w.bytes
  pub here : w.sector < row_count 61 m → m' ≡ with_row 61 m w.sector (readable w.bytes)
  pub rules : w.sector < row_count 61 m
      → WriteCall w.sector w.bytes (Ok tt) (rows_mean m) (rows_mean m')
  pub past : row_count 61 m ≤ w.sector → m' ≡ m

-- memory m with all of ws made durable, the first of them first
abbrev pub stored_all : List PendingWrite → List ℕ → List ℕ
stored_all [] m = m
stored_all (w ∷ ws) m = stored_all ws (stored w m)

-- memory m once there is room for one more write to wait: with eight waiting, the oldest becomes durable
abbrev pub room_made : List PendingWrite → List ℕ → List ℕ
room_made ws m = cond (nat_lt (length ws) 8) m (stored_all (take 1 ws) m)
