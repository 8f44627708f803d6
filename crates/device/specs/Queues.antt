-- The list that a queue stands for, oldest first, for how many it has places, and what a push does to them; the contracts of a queue
-- speak of these.
-- Place 0 follows the last place. Assumes nothing.
use Rattle.std.specs.Prelude.{◌≡◌, ℕ, ◌<◌, List, [], ◌∷◌, ◌++◌, length, take, drop, slice_index_or, slice_set}
use Rattle.device.specs.declared.queue.Queue.{Queue}

-- so many of the places, from the first on
abbrev pub ring : {X : Type 0} → List X → ℕ → ℕ → List X
ring xs first len = take len (drop first xs ++ take first xs)

abbrev pub waiting : {X : Type 0} → Queue X → List X
waiting q = ring q.slots.now q.first q.len

abbrev pub places : {X : Type 0} → Queue X → ℕ
places q = length q.slots.now

-- what the places hold, those where one waits and the others
abbrev pub in_places : {X : Type 0} → Queue X → List X
in_places q = q.slots.now

-- which piece of the caller's memory the places are
abbrev pub places_at : {X : Type 0} → Queue X → ℕ
places_at q = q.slots.ghost_name

-- x is put in one of the places, and all others stay as they are
abbrev pub PutsOne : {X : Type 0} → X → List X → List X → Type 0
PutsOne x xs ys = (k : ℕ) × (k < length xs) × (ys ≡ slice_set xs k x)

-- as many wait as there are places
abbrev pub IsFull : {X : Type 0} → Queue X → Type 0
IsFull q = length (waiting q) ≡ places q

-- q was not full, and in q' x waits behind all others, in one of the places
abbrev pub Joins : {X : Type 0} → X → Queue X → Queue X → Type 0
Joins x q q' = (waiting q' ≡ waiting q ++ x ∷ []) × (length (waiting q) < places q)
    × PutsOne x (in_places q) (in_places q')

-- before `x` come `k` others
abbrev pub At : {X : Type 0} → List X → ℕ → X → Type 0
At {X = X} xs k x = (k < length xs) × ((d : X) → slice_index_or xs k d ≡ x)
