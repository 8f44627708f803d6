-- Settling stands for a power cut: a number for each sector chooses what is found there. 0 keeps the durable content, k takes the
-- k-th oldest write that waits there, 9 tears the sector if one waits; any other number, and a missing one, is 0. Assumes nothing.
use Rattle.std.specs.Prelude.{◌≡◌, ℕ, ◌<◌, ◌≤◌, cond, List, ◌∷◌, map, length, ◌==◌, nat_lt, slice_index, slice_index_or}
use Rattle.device.specs.declared.pending.PendingWrite.{PendingWrite}
use Rattle.device.specs.Sector.{Content, torn, Image, Found}
use Rattle.device.specs.Bytes.{content}
use Rattle.device.specs.Memory.{row_count, row_in, with_row, only}
use Rattle.device.specs.Queues.{At}
use Rattle.device.specs.Waiting.{waiting_at, may}
use Rattle.bench.specs.Rows.{durable, readable, torn_row}

-- Where bs wait, oldest first, the number k chooses one: r as it is, what f makes of the k-th of them, or t.
abbrev pub choose : {X : Type 0} → (List ℕ → X) → X → ℕ → List (List ℕ) → X → X
choose f t k bs r = cond (k == 9)
    (cond (nat_lt 0 (length bs)) t r)
    (slice_index_or (r ∷ map f bs) k r)

-- the row that is found where r is the durable one, and the content where c is
abbrev pub chosen_row : ℕ → List (List ℕ) → List ℕ → List ℕ
chosen_row k bs r = choose readable (torn_row r) k bs r

abbrev pub chosen : ℕ → List (List ℕ) → Content → Content
chosen k bs c = choose content torn k bs c

-- What the numbers cs leave of memory m in front of which ws wait: each row, and so every byte, and each content.
pub record Settles (cs : List ℕ) (ws : List PendingWrite) (m m' : List ℕ) : Type 0 where
  pub long : length m' ≡ length m
  pub rows : (s : ℕ) → row_in 61 m' s
      ≡ chosen_row (slice_index cs s) (waiting_at (row_count 61 m) ws s) (row_in 61 m s)
  pub contents : (s : ℕ) → durable m' s
      ≡ chosen (slice_index cs s) (waiting_at (row_count 61 m) ws s) (durable m s)

-- Every image that a cut may leave has numbers, a byte for each sector, that settle to it.
abbrev pub SettlesToEach : List PendingWrite → List ℕ → Type 0
SettlesToEach ws m = (σ : Image) → Found (may (row_count 61 m) ws (only (durable m))) σ
    → (cs : List ℕ) × (length cs ≡ row_count 61 m) × ((i : ℕ) → slice_index cs i < 256)
    × ((s : ℕ) → chosen (slice_index cs s) (waiting_at (row_count 61 m) ws s) (durable m s) ≡ σ s)

-- what the number k leaves of sector s
pub record SettlesAt (k : ℕ) (s : ℕ) (ws : List PendingWrite) (m m' : List ℕ) : Type 0 where
  pub memory : m' ≡ with_row 61 m s
      (chosen_row k (waiting_at (row_count 61 m) ws s) (row_in 61 m s))
  pub whole : length (chosen_row k (waiting_at (row_count 61 m) ws s) (row_in 61 m s)) ≡ 61
  pub content : durable m' s ≡ chosen k (waiting_at (row_count 61 m) ws s) (durable m s)

-- what the numbers cs leave of the sector that the k-th of the writes is to, if there is such a write and such a sector; else memory stays
pub record SettlesFor (k : ℕ) (cs : List ℕ) (ws : List PendingWrite) (m m' : List ℕ) : Type 0 where
  pub here : (w : PendingWrite) → At ws k w → w.sector < row_count 61 m
      → SettlesAt (slice_index cs w.sector) w.sector ws m m'
  pub past : (w : PendingWrite) → At ws k w → row_count 61 m ≤ w.sector → m' ≡ m
  pub none : length ws ≤ k → m' ≡ m
