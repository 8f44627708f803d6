-- The slots of a page and the words that they take.
use Rattle.std.proofs.Common.{◌≡◌, ℕ, ◌+◌, ◌-◌, ◌*◌, ◌<◌, ◌≤◌, arith}
use Rattle.std.proofs.lemmas.Nat.{same_from_place}
use Rattle.layout.specs.declared.class.Class.{Class}
use Rattle.layout.specs.declared.class.Class.TheVariants.{Free, One, Two, Three, Five, Ten, Root}
use Rattle.layout.specs.Classes.{size_of, slots_of, Takes}

-- slots have words
pub slots_have_words : (c : Class) → 0 < slots_of c → 0 < size_of c
slots_have_words Free h = absurd (omega arith)
slots_have_words One h = omega arith
slots_have_words Two h = omega arith
slots_have_words Three h = omega arith
slots_have_words Five h = omega arith
slots_have_words Ten h = omega arith
slots_have_words Root h = absurd (omega arith)

-- a word is in one slot at most
pub one_slot : (c : Class) (i k j : ℕ) → Takes c i j → (k * size_of c ≤ j) × (j < k * size_of c + size_of c) → i ≡ k
one_slot c i k j t u = (same_from_place i (j - i * size_of c) k (j - k * size_of c) (size_of c) (omega arith) (omega arith) (omega arith)).0
