-- The number that each refusal goes by, its values (where it has them, the sector and the data word), and its rank: the place of
-- the refusal in the order in which they are tried. Assumes nothing.
use Rattle.std.specs.Prelude.{◌≡◌, ℕ, ◌<◌, ◌↔◌, List, [], ◌∷◌}
use Rattle.image.specs.declared.refusal.ImageRefusal.{ImageRefusal}
use Rattle.image.specs.declared.refusal.ImageRefusal.TheVariants.{NoHeader as LacksHeader, LaterEpoch as IsLater, Torn as IsTorn, Unlawful as IsUnlawful, Dangling as Dangles}
use Rattle.image.specs.declared.refusal.StageError.{StageError}
use Rattle.image.specs.declared.refusal.StageError.TheVariants.{Off as TurnedOff, NoHeap}
use Rattle.image.specs.Refusals.{Told, tells, told as told_of_image}
use Rattle.model.specs.declared.refusal.Refusal.{Refusal}
use Rattle.model.specs.declared.refusal.Refusal.TheVariants.{Off, NoSector, Torn, Shut, TransactionOpen, WrongTicket, OutOfRange, NoObject, Referred, NoRoom, NinthPage, LastNumber, BadGeometry, NoHeader, LaterEpoch, Unlawful, Dangling, ShortMemory}

abbrev pub told : Refusal → Told
told Off = tells 1 []
told NoSector = tells 2 []
told (Torn s) = tells 3 (s ∷ [])
told Shut = tells 4 []
told TransactionOpen = tells 5 []
told WrongTicket = tells 6 []
told OutOfRange = tells 7 []
told NoObject = tells 8 []
told Referred = tells 9 []
told NoRoom = tells 10 []
told NinthPage = tells 11 []
told LastNumber = tells 12 []
told BadGeometry = tells 13 []
told NoHeader = tells 14 []
told (LaterEpoch s) = tells 15 (s ∷ [])
told (Unlawful s) = tells 16 (s ∷ [])
told (Dangling s w) = tells 17 (s ∷ w ∷ [])
told ShortMemory = tells 18 []

abbrev pub number : Refusal → ℕ
number r = (told r).number

-- what a call tells of an image that holds no heap, and of a stage of an opening that fails
abbrev pub of_image : ImageRefusal → Refusal
of_image LacksHeader = NoHeader
of_image (IsLater s) = LaterEpoch s
of_image (IsTorn s) = Torn s
of_image (IsUnlawful s) = Unlawful s
of_image (Dangles s w) = Dangling s w

abbrev pub of_stage : StageError → Refusal
of_stage TurnedOff = Off
of_stage (NoHeap q) = of_image q

-- Of two refusals that apply to a call, the one of lower rank is told. One order serves all calls. Two have one rank: both tell of a page,
-- and the page of the lowest sector decides.
abbrev pub rank : Refusal → ℕ
rank Off = 0
rank NoSector = 1
rank ShortMemory = 2
rank NoHeader = 3
rank (LaterEpoch s) = 4
rank (Torn s) = 5
rank (Unlawful s) = 5
rank (Dangling s w) = 6
rank Shut = 7
rank TransactionOpen = 8
rank WrongTicket = 9
rank OutOfRange = 10
rank NoObject = 11
rank Referred = 12
rank NoRoom = 13
rank NinthPage = 14
rank LastNumber = 15
rank BadGeometry = 16

-- an opening and a check tell it, which look at a whole card: what is wrong with the card, or that memory is too short for it
abbrev pub IsOfCard : Refusal → Type 0
IsOfCard (Torn s) = Unit {0}
IsOfCard NoHeader = Unit {0}
IsOfCard (LaterEpoch s) = Unit {0}
IsOfCard (Unlawful s) = Unit {0}
IsOfCard (Dangling s w) = Unit {0}
IsOfCard ShortMemory = Unit {0}
IsOfCard _ = ⊥

-- each is tried before the next
abbrev pub Tried : List Refusal → Type 0
Tried [] = Unit {0}
Tried (r ∷ []) = Unit {0}
Tried (q ∷ r ∷ rs) = (rank q < rank r) × Tried (r ∷ rs)

-- The order, said by the calls.
pub record TriedInOrder : Type 0 where
  -- other calls try them in the order of their numbers
  pub by_number : (q r : Refusal) → ¬ IsOfCard q → ¬ IsOfCard r
      → (rank q < rank r) ↔ (number q < number r)
  -- an opening and a check try 1, 18, 14, 15, 3 and 16 in one pass over the pages, 17, and then 12, whatever the sectors and the word
  pub of_card : (e t d w : ℕ)
      → Tried (Off ∷ ShortMemory ∷ NoHeader ∷ LaterEpoch e ∷ Torn t ∷ Dangling d w
      ∷ LastNumber ∷ [])
  pub one_pass : (t u : ℕ) → rank (Torn t) ≡ rank (Unlawful u)

-- What is so of all refusals.
pub record OfAllRefusals : Type 0 where
  pub order : TriedInOrder
  -- that of an image keeps its number and its values
  pub kept : (q : ImageRefusal) → told (of_image q) ≡ told_of_image q
