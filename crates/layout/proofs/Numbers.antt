-- Numbers in bytes: what is read back, and which lists are bytes.
use Rattle.std.proofs.Common.{◌≡◌, ℕ, zero, suc, ◌<◌, List, [], ◌∷◌, ◌++◌, get_or, refl, arith}
use Rattle.std.specs.Int.{w16, w32, from_le_bytes}
use Rattle.std.proofs.lemmas.Nat.{le_bytes_2, le_bytes_4}
use Rattle.layout.specs.Numbers.{two, four}

-- each element is below 256
pub record AreBytes (xs : List ℕ) : Type 0 where
  pub each : (i : ℕ) → get_or xs i 0 < 256

-- no elements are bytes
pub AreBytes-nil : AreBytes []
AreBytes-nil = record { each = λ i. omega arith }

-- one byte more
pub AreBytes-cons : {x : ℕ} {xs : List ℕ} → x < 256 → AreBytes xs → AreBytes (x ∷ xs)
AreBytes-cons {x} {xs} p q = record { each = at }
  where
    at : (i : ℕ) → get_or (x ∷ xs) i 0 < 256
    at zero = p
    at (suc i) = q.each i

-- a number in two bytes, before bytes
pub AreBytes-two : (n : ℕ) {xs : List ℕ} → AreBytes xs → AreBytes (two n ++ xs)
AreBytes-two n q = AreBytes-cons (omega arith) (AreBytes-cons (omega arith) q)

-- a number in four
pub AreBytes-four : (n : ℕ) {xs : List ℕ} → AreBytes xs → AreBytes (four n ++ xs)
AreBytes-four n q =
    AreBytes-cons (omega arith) (AreBytes-cons (omega arith) (AreBytes-cons (omega arith) (AreBytes-cons (omega arith) q)))

-- what is read from a number's bytes has the same bytes, however large the number
pub two-read : (n : ℕ) → two (from_le_bytes w16 (two n)) ≡ two n
two-read n = le_bytes_2 (two n) _ refl (AreBytes-two n AreBytes-nil).each refl

-- the same at four bytes
pub four-read : (n : ℕ) → four (from_le_bytes w32 (four n)) ≡ four n
four-read n = le_bytes_4 (four n) _ refl (AreBytes-four n AreBytes-nil).each refl
