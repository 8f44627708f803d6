-- What is printed of the heap on a card: its numbers, or the refusal that the image gets; and a sentence.
-- Assumes nothing.
use Rattle.std.specs.Prelude.{ℕ, cond, List, [], ◌∷◌, ◌++◌, ◌==◌, codes, Ok, Err, Result}
use Rattle.std.specs.Fmt.{decimal}
use Rattle.image.specs.declared.counts.Counts.{Counts}
use Rattle.image.specs.declared.refusal.ImageRefusal.{ImageRefusal}
use Rattle.image.specs.declared.refusal.ImageRefusal.TheVariants.{Torn, NoHeader, LaterEpoch, Unlawful, Dangling}
use Rattle.image.specs.Refusals.{told}

abbrev pub heap_line : Counts → List ℕ
heap_line c =
    codes "heap: " ++ decimal c.transactions ++ codes " transactions, "
    ++ decimal c.free_pages ++ codes " free pages, "
    ++ decimal c.objects ++ codes " objects, " ++ decimal c.reachable ++ codes " reachable"

abbrev pub heap_sentence : Counts → List ℕ
heap_sentence c = cond (c.objects == c.reachable)
    (codes "The card holds a heap, and each of its objects can be reached.")
    (codes "The card holds a heap, and some of its objects cannot be reached.")

-- ", sector 13, word 5", as far as there are values
abbrev pub values_text : List ℕ → List ℕ
values_text [] = []
values_text (s ∷ []) = codes ", sector " ++ decimal s
values_text (s ∷ w ∷ _) = codes ", sector " ++ decimal s ++ codes ", word " ++ decimal w

abbrev pub refusal_line : ImageRefusal → List ℕ
refusal_line r =
    codes "no heap: refusal " ++ decimal (told r).number ++ values_text (told r).values

abbrev pub refusal_sentence : ImageRefusal → List ℕ
refusal_sentence NoHeader = codes "The card holds no heap: it has no valid header."
refusal_sentence (LaterEpoch s) =
    codes "The card holds no heap: its log has a record of a later epoch than its header."
refusal_sentence (Torn s) =
    codes "The card holds no heap: a page cannot be read, and its log has no record of it."
refusal_sentence (Unlawful s) =
    codes "The card holds no heap: a page breaks the rules of the format."
refusal_sentence (Dangling s w) =
    codes "The card holds no heap: a data word refers to an object that is not there."

-- two lines; whoever prints them ends the second
abbrev pub heap_text : Result Counts ImageRefusal → List ℕ
heap_text (Ok c) = heap_line c ++ codes "\n" ++ heap_sentence c
heap_text (Err r) = refusal_line r ++ codes "\n" ++ refusal_sentence r
