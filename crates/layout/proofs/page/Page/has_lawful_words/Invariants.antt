use Rattle.std.proofs.Common.{◌≡◌, ℕ, ◌+◌, ◌*◌, ◌^◌, ◌<◌, ◌≤◌, ◌⊎◌}
use Rattle.layout.specs.Words.{value_of}
use Rattle.layout.specs.Classes.{size_of, slots_of}
use Rattle.layout.specs.Pages.{Outside, InObject, word_at}
use Rattle.layout.proofs.page.Page.has_lawful_words.Given as goal

abbrev pub invariant-loop-word : goal.invariant-loop-word
invariant-loop-word l = record {
  few : l.slot ≤ l.word;
  end : l.end ≡ l.slot * size_of l.self.class + size_of l.self.class;
  slot : 0 < slots_of l.self.class → (l.slot * size_of l.self.class ≤ l.word) × (l.word ≤ l.end);
  outside : (j : ℕ) → j < l.word → InObject l.self j ⊎ Outside l.self.class (word_at l.self j);
  fit : (j : ℕ) → j < l.word → value_of (word_at l.self j) < 2 ^ 32;
}
