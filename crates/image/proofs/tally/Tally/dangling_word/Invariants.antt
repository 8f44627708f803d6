-- The words that were passed do not dangle.
-- Assumes nothing.
use Rattle.std.proofs.Common.{ℕ, ◌<◌}
use Rattle.image.specs.Heaps.{Heap, DanglesIn}
use Rattle.image.specs.Tallies.{IsTallyOfHeap}
use Rattle.image.proofs.tally.Tally.dangling_word.Given as goal

abbrev pub invariant-loop-word : goal.invariant-loop-word
invariant-loop-word l = (H : Heap) → IsTallyOfHeap H l.self → (k : ℕ) → k < l.word → DanglesIn H l.page k → ⊥
