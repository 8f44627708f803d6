-- What a walk does to its marks, one for each handle, and to its queue of handles.
-- Assumes nothing.
use Rattle.std.specs.Prelude.{◌≡◌, ℕ, ◌+◌, ◌<◌, ◌≤◌, List, [], ◌∷◌, ◌++◌, length, count_by, slice_index, slice_index_or, slice_set, ◌==◌}
use Rattle.layout.specs.declared.handle.Handle.{Handle}
use Rattle.layout.specs.declared.word.Word.{Word}
use Rattle.layout.specs.declared.word.Word.TheVariants.{Number, Reference}
use Rattle.device.specs.declared.queue.Queue.{Queue}
use Rattle.device.specs.Queues.{waiting, places}

abbrev pub handle : ℕ → Handle
handle k = record { 0 = k }

abbrev pub IsMarked : List ℕ → ℕ → Type 0
IsMarked ms k = 0 < slice_index ms k

-- how many are not marked
abbrev pub unmarked : List ℕ → ℕ
unmarked ms = count_by (λ m. m == 0) ms

-- all that are not marked have room behind those that wait
abbrev pub HasRoom : List ℕ → Queue ℕ → Type 0
HasRoom ms q = length (waiting q) + unmarked ms ≤ places q

-- one of the words refers to handle k
abbrev pub Refer : List Word → ℕ → Type 0
Refer ws k = (j : ℕ) × (j < length ws) × (slice_index_or ws j (Number 0) ≡ Reference (handle k))

-- from the marks ms and the queue q on, handles are marked and queued one after another; each was not marked, and P is so of it
pub data Marks (P : ℕ → Type 0) (ms q : List ℕ) : List ℕ → List ℕ → Type 0 where
  none : Marks P ms q ms q
  more : (ms' q' : List ℕ) (k : ℕ) → Marks P ms q ms' q' → P k → k < length ms'
      → slice_index ms' k ≡ 0
      → Marks P ms q (slice_set ms' k 1) (q' ++ k ∷ [])

-- and in the end, all of which P is so are marked
pub record Visits (P : ℕ → Type 0) (ms q ms' q' : List ℕ) : Type 0 where
  pub marks : Marks P ms q ms' q'
  pub all : (k : ℕ) → P k → IsMarked ms' k
