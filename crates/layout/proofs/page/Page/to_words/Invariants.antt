use Rattle.std.proofs.Common.{◌≡◌, ◌+◌, ◌∷◌, length, take, map}
use Rattle.layout.specs.Classes.{code_of}
use Rattle.layout.specs.Words.{value_of}
use Rattle.layout.specs.Bodies.{marks, kinds}
use Rattle.layout.proofs.page.Page.to_words.Given as goal

abbrev pub invariant-loop-at : goal.invariant-loop-at
invariant-loop-at l = record {
  all : length l.words ≡ 12;
  written : take (2 + l.at) l.words ≡ marks l.self.used (code_of l.self.class) ∷ kinds l.self.words ∷ map value_of (take l.at l.self.words);
}
