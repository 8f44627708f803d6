use Rattle.std.proofs.Common.{◌≡◌, length, take}
use Rattle.layout.specs.Bodies.{marks}
use Rattle.layout.proofs.body.read_marks.Given as goal

abbrev pub invariant-loop-slot : goal.invariant-loop-slot
invariant-loop-slot l = record { ten : length l.used ≡ 10; read : marks (take l.slot l.used) l.rest ≡ l.head }
