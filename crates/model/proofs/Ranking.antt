-- The order in which refusals are tried, and those of images among them.
-- Assumes nothing.
use Rattle.std.proofs.Common.{◌≡◌, ◌+◌, ◌≤◌, ◌<◌, ◌⊎◌, ◌↔◌, inl, inr, refl, arith}
use Rattle.image.specs.declared.refusal.ImageRefusal.{ImageRefusal}
use Rattle.image.specs.declared.refusal.ImageRefusal.TheVariants.{NoHeader as LacksHeader, LaterEpoch as IsLater, Torn as IsTorn, Unlawful as IsUnlawful, Dangling as Dangles}
use Rattle.image.specs.Refusals.{told as told_of_image}
use Rattle.model.specs.declared.refusal.Refusal.{Refusal}
use Rattle.model.specs.declared.refusal.Refusal.TheVariants.{Off, NoSector, Torn, Shut, TransactionOpen, WrongTicket, OutOfRange, NoObject, Referred, NoRoom, NinthPage, LastNumber, BadGeometry, NoHeader, LaterEpoch, Unlawful, Dangling, ShortMemory}
use Rattle.model.specs.Refusals.{told, number, of_image, rank, IsOfCard, TriedInOrder, OfAllRefusals}

-- 1 and 2 are tried first, and those that only a card gets stand between them and the rest
placed : (r : Refusal) → ¬ IsOfCard r
    → ((number r ≤ 2) × (rank r + 1 ≡ number r)) ⊎ ((4 ≤ number r) × (rank r ≡ number r + 3))
placed Off n = inl (omega arith, refl)
placed NoSector n = inl (omega arith, refl)
placed Shut n = inr (omega arith, refl)
placed TransactionOpen n = inr (omega arith, refl)
placed WrongTicket n = inr (omega arith, refl)
placed OutOfRange n = inr (omega arith, refl)
placed NoObject n = inr (omega arith, refl)
placed Referred n = inr (omega arith, refl)
placed NoRoom n = inr (omega arith, refl)
placed NinthPage n = inr (omega arith, refl)
placed LastNumber n = inr (omega arith, refl)
placed BadGeometry n = inr (omega arith, refl)
placed (Torn s) n = absurd (n tt)
placed NoHeader n = absurd (n tt)
placed (LaterEpoch s) n = absurd (n tt)
placed (Unlawful s) n = absurd (n tt)
placed (Dangling s w) n = absurd (n tt)
placed ShortMemory n = absurd (n tt)

numbered : (q r : Refusal) → ¬ IsOfCard q → ¬ IsOfCard r → (rank q < rank r) ↔ (number q < number r)
numbered q r m n =
    let a = placed q m in
    let b = placed r n in
    (λ l. omega (arith, a, b), λ l. omega (arith, a, b))

in_order : TriedInOrder
in_order = record {
  by_number = numbered;
  of_card = λ e t d w.
      (omega arith, (omega arith, (omega arith, (omega arith, (omega arith, (omega arith, tt))))));
  one_pass = λ t u. refl;
}

kept : (q : ImageRefusal) → told (of_image q) ≡ told_of_image q
kept LacksHeader = refl
kept (IsLater s) = refl
kept (IsTorn s) = refl
kept (IsUnlawful s) = refl
kept (Dangles s w) = refl

pub of_all_refusals : OfAllRefusals
of_all_refusals = record { order = in_order; kept = kept }
