-- The youngest stands in the second piece of those that wait, or else in the first.
-- Assumes nothing.
use Rattle.bench.proofs.Storing.{first_piece, second_piece}
use Rattle.bench.proofs.bench.Bench.youngest.Goals as goal

pub returns-in-None-clause-found : goal.returns-in-None-clause-found
returns-in-None-clause-found c = first_piece _ _ c.as_slices.result.0.now c.as_slices.result.1.now c.as_slices.ensures _ c.in-None.ensures.found c.last_to-in-None.ensures.found

pub returns-in-Some-clause-found : goal.returns-in-Some-clause-found
returns-in-Some-clause-found c = second_piece _ _ c.as_slices.result.0.now c.as_slices.result.1.now c.as_slices.ensures c.in-Some.write c.in-Some.ensures.found
