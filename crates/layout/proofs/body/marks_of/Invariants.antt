use Rattle.std.proofs.Common.{◌≡◌, drop}
use Rattle.layout.specs.Bodies.{marks}
use Rattle.layout.proofs.body.marks_of.Given as goal

abbrev pub invariant-loop-slot : goal.invariant-loop-slot
invariant-loop-slot l = l.head ≡ marks (drop l.slot l.used) l.code
