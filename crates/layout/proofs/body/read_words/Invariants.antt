use Rattle.std.proofs.Common.{◌≡◌, ◌++◌, length, get_or, take, drop}
use Rattle.layout.proofs.DataKinds.{words_of}
use Rattle.layout.proofs.body.read_words.Given as goal

abbrev pub invariant-loop-at : goal.invariant-loop-at
invariant-loop-at l = record {
  ten : length l.words ≡ 10;
  read : take l.at l.words ++ words_of l.rest (drop l.at (drop 2 l.body)) ≡ words_of (get_or l.body 1 0) (drop 2 l.body);
}
