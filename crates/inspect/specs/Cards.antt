-- What is told of the heap on a card. Assumes nothing.
use Rattle.std.specs.Prelude.{Ok, Err, Result}
use Rattle.device.specs.Rules.{Meaning}
use Rattle.image.specs.declared.counts.Counts.{Counts}
use Rattle.image.specs.declared.refusal.ImageRefusal.{ImageRefusal}
use Rattle.image.specs.Heaps.{Heap, Counted}
use Rattle.image.specs.Images.{Holds, Judged}

-- a card that means m holds a heap, and these are its numbers; or this is the refusal that its image gets
abbrev pub ToldOf : Meaning → Result Counts ImageRefusal → Type 0
ToldOf m (Ok c) = (H : Heap) × Holds m.count m.current H × Counted H c
ToldOf m (Err q) = Judged m.count m.current q
