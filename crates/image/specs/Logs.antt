-- The log: transactions one after another from position 0 on, each some page records and then a commit record.
-- A list of transactions has the newest first; the page records of each stand in their order. Assumes nothing.
use Rattle.std.specs.Prelude.{◌≡◌, ℕ, ◌+◌, ◌^◌, ◌<◌, ◌≤◌, cond, List, [], ◌∷◌, length, slice_index_or, Option, Some, None, ◌==◌}
use Rattle.device.specs.Sector.{Content, payload, Image}
use Rattle.layout.specs.declared.header.Header.{Header}
use Rattle.layout.specs.Geometries.{IsPage}
use Rattle.layout.specs.Records.{page_record_bytes, commit_record_bytes, most_records}

-- What is known of sectors. Of an image: that a sector holds a content.
abbrev pub Has : Type 1
Has = ℕ → Content → Type 0

abbrev pub In : Image → Has
In σ s c = σ s ≡ c

-- what a page record says: the page whose home is this sector gets this body
pub record Change : Type 0 where
  pub home : ℕ
  pub body : List ℕ

abbrev pub change_at : List Change → ℕ → Change
change_at t i = slice_index_or t i (record { home = 0; body = [] })

-- how many log positions transactions take
abbrev pub span : List (List Change) → ℕ
span [] = 0
span (t ∷ ts) = span ts + (length t + 1)

-- A good transaction, number k, from position q on: page records, eight at most, each of a page of the card, and a commit record which
-- tells how many; all of the header's epoch, and each at its own position.
pub record Good (has : Has) (h : Header) (q k : ℕ) (t : List Change) : Type 0 where
  pub fits : q + length t < h.geometry.log
  pub few : length t ≤ most_records
  pub number : k < 2 ^ 32
  pub homes : (i : ℕ) → i < length t → IsPage h.geometry (change_at t i).home
  pub pages : (i : ℕ) → i < length t → has (2 + (q + i))
      (payload (page_record_bytes h.epoch (q + i) (change_at t i).home (change_at t i).body))
  pub commit : has (2 + (q + length t))
      (payload (commit_record_bytes h.epoch (q + length t) (length t) k))

-- the number of the transaction that may follow ts
abbrev pub next_number : Header → List (List Change) → ℕ
next_number h ts = h.transactions + length ts + 1

-- good transactions from position 0 on, numbered from the one after the header's count on
abbrev pub Run : Has → Header → List (List Change) → Type 0
Run has h [] = Unit {0}
Run has h (t ∷ ts) = Run has h ts × Good has h (span ts) (next_number h ts) t

-- no good transaction follows
abbrev pub Ended : Has → Header → List (List Change) → Type 0
Ended has h ts = (t : List Change) → ¬ Good has h (span ts) (next_number h ts) t

-- the committed transactions of the log: a run of good ones, and no good one after
pub record IsLog (has : Has) (h : Header) (ts : List (List Change)) : Type 0 where
  pub run : Run has h ts
  pub ended : Ended has h ts

abbrev pub or_else : {A : Type 0} → Option A → Option A → Option A
or_else (Some x) o = Some x
or_else None o = o

-- the body of the last record for the page of sector s in a transaction
unfoldable pub last_in : ℕ → List Change → Option (List ℕ)
last_in s [] = None
last_in s (c ∷ cs) = or_else (last_in s cs) (cond (c.home == s) (Some c.body) None)

-- the body of the last committed record for it
unfoldable pub last_record : ℕ → List (List Change) → Option (List ℕ)
last_record s [] = None
last_record s (t ∷ ts) = or_else (last_in s t) (last_record s ts)
