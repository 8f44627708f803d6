-- What is so of every image.
-- Assumes nothing.
use Rattle.image.proofs.Single.{heap_held, refusal_one, not_both}
use Rattle.image.proofs.DecideImages.{always_one}
use Rattle.image.proofs.DecideReadings.{reads_as_meant}
use Rattle.image.proofs.theorems.of_all_images.Goals as goal

pub returns : goal.returns
returns c = record {
  one_heap = heap_held;
  one_refusal = refusal_one;
  not_both = not_both;
  always_one = always_one;
  as_meant = reads_as_meant;
}
