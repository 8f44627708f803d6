-- What a bench holds and means, what each call does to it, how it is made over memory and places, and why it is not.
-- Assumes nothing.
use Rattle.std.specs.Prelude.{◌≡◌, ℕ, ◌%◌, ◌<◌, List, [], ◌∷◌, ◌++◌, length, Ok, Err}
use Rattle.device.specs.declared.memory.MemoryError.{MemoryError}
use Rattle.device.specs.declared.memory.MemoryError.TheVariants.{NotWholeRows, FewPlaces}
use Rattle.device.specs.declared.pending.PendingWrite.{PendingWrite}
use Rattle.device.specs.Faults.{Answer}
use Rattle.device.specs.Rules.{Meaning}
use Rattle.device.specs.Memory.{bytes_of, bytes_at}
use Rattle.device.specs.Queues.{waiting, in_places, places_at, PutsOne}
use Rattle.device.specs.Waiting.{room_in, with_waiting}
use Rattle.bench.specs.declared.bench.Bench.{Bench}
use Rattle.bench.specs.declared.bench.Refused.{Refused}
use Rattle.bench.specs.Rows.{rows_mean}
use Rattle.bench.specs.Waits.{stored_all, room_made}

-- the bytes of its rows, and which piece of the caller's memory they are
abbrev pub memory : Bench → List ℕ
memory d = bytes_of d.rows

abbrev pub memory_at : Bench → ℕ
memory_at d = bytes_at d.rows

-- the writes that wait, oldest first
abbrev pub queued : Bench → List PendingWrite
queued d = waiting d.pending

-- what its places hold, those where a write waits and the others, and which piece of the caller's memory they are
abbrev pub slots : Bench → List PendingWrite
slots d = in_places d.pending

abbrev pub slots_at : Bench → ℕ
slots_at d = places_at d.pending

-- what a bench means: its rows, with the writes that wait in front of them
abbrev pub benched : Bench → Meaning
benched d = with_waiting (queued d) (rows_mean (memory d))

-- it stands on the same pieces of the caller's memory
pub record SameMemory (d d' : Bench) : Type 0 where
  pub rows : memory_at d' ≡ memory_at d
  pub slots : slots_at d' ≡ slots_at d

-- The write w joins those that wait, as the youngest: one of the places takes it, and the others stay as they are. Before a ninth, the
-- oldest becomes durable.
pub record LetsWait (w : PendingWrite) (d d' : Bench) : Type 0 where
  pub pending : queued d' ≡ room_in (queued d) ++ w ∷ []
  pub rows : memory d' ≡ room_made (queued d) (memory d)
  pub place : PutsOne w (slots d) (slots d')
  pub same : SameMemory d d'

-- what a write of b to sector s does: accepted, it waits; refused, it changes nothing
abbrev pub AfterWrite : ℕ → List ℕ → Answer → Bench → Bench → Type 0
AfterWrite s b (Ok _) d d' = LetsWait (record { sector = s; bytes = b }) d d'
AfterWrite s b (Err _) d d' = d' ≡ d

-- What a flush does: all that waited is durable, oldest first, and nothing waits; the places stay as they are.
pub record AfterFlush (d d' : Bench) : Type 0 where
  pub rows : memory d' ≡ stored_all (queued d) (memory d)
  pub pending : queued d' ≡ []
  pub slots : slots d' ≡ slots d
  pub same : SameMemory d d'

-- bench d stands on memory m and on places that hold ps, and nothing waits
abbrev pub Made : List ℕ → List PendingWrite → Bench → Type 0
Made m ps d = (memory d ≡ m) × (slots d ≡ ps) × (queued d ≡ [])

-- memory m and places that hold ps are refused for this reason; memory that is not whole rows is told first
abbrev pub UnfitMemory : List ℕ → List PendingWrite → MemoryError → Type 0
UnfitMemory m ps NotWholeRows = length m % 61 ≡ 0 → ⊥
UnfitMemory m ps FewPlaces = (length m % 61 ≡ 0) × (length ps < 8)

-- they are refused, and given back as they were
abbrev pub Refuses : List ℕ → List PendingWrite → Refused → Type 0
Refuses m ps e = UnfitMemory m ps e.reason × (e.rows.now ≡ m) × (e.slots.now ≡ ps)
