use Rattle.std.proofs.Common.{◌≡◌, drop}
use Rattle.layout.specs.Bodies.{kinds}
use Rattle.layout.proofs.body.kinds_of.Given as goal

abbrev pub invariant-loop-at : goal.invariant-loop-at
invariant-loop-at l = l.head ≡ kinds (drop l.at l.words)
