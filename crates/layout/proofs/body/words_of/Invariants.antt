use Rattle.std.proofs.Common.{◌≡◌, ◌*◌, length, take}
use Rattle.std.specs.List.{flat_map}
use Rattle.layout.specs.Numbers.{four}
use Rattle.layout.proofs.body.words_of.Given as goal

abbrev pub invariant-loop-at : goal.invariant-loop-at
invariant-loop-at l = record { all : length l.words ≡ 12; read : flat_map four (take l.at l.words) ≡ take (4 * l.at) l.bytes }
