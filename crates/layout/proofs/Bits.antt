-- The bits of marks are the slots.
use Rattle.std.proofs.Common.{◌≡◌, ℕ, zero, suc, ◌+◌, ◌*◌, ◌/◌, ◌%◌, ◌^◌, ◌<◌, ◌≤◌, Bool, true, false, List, [], ◌∷◌, length, get_or, sym, ◌∙◌, ap, subst, refl, arith}
use Rattle.std.proofs.Math.Nat.{pow-le-pow_right}
use Rattle.std.proofs.lemmas.Nat.{pow_pos, shr-shr, shr_below}
use Rattle.layout.specs.Bodies.{bit_of, marks}
use Rattle.layout.specs.Slots.{HasBit}
use Rattle.layout.proofs.Marks.{marks-below}

pub marks_fit : (us : List Bool) → length us ≤ 10 → marks us 0 < 2 ^ 16
marks_fit us l = let b = marks-below us 0 10 (omega arith) l in omega arith

half : (b : Bool) (m : ℕ) → (bit_of b + 2 * m) / 2 ≡ m
half true m = omega arith
half false m = omega arith

last_bit : (b : Bool) (m : ℕ) → (bit_of b + 2 * m) % 2 ≡ bit_of b
last_bit true m = omega arith
last_bit false m = omega arith

none_left : (n i : ℕ) → n < 2 ^ i → n / 2 ^ i ≡ 0
none_left n i h = let z : 0 + i ≡ i = omega arith in let b = shr_below n 0 i (subst (λ (k : ℕ). n < 2 ^ k) (sym z) h) in omega arith

one_down : (n i : ℕ) → n / 2 ^ suc i ≡ n / 2 / 2 ^ i
one_down n i = let z : 1 + i ≡ suc i = omega arith in sym (shr-shr n 1 i ∙ ap (λ (k : ℕ). n / 2 ^ k) z)

bit-marks : (us : List Bool) (i : ℕ) → marks us 0 / 2 ^ i % 2 ≡ bit_of (get_or us i false)
unfolding marks
bit-marks [] i = ap (λ (k : ℕ). k % 2) (none_left 0 i (pow_pos i))
bit-marks (u ∷ us) zero = let z : (bit_of u + 2 * marks us 0) / 1 ≡ bit_of u + 2 * marks us 0 = omega arith in ap (λ (k : ℕ). k % 2) z ∙ last_bit u (marks us 0)
bit-marks (u ∷ us) (suc i) = ap (λ (k : ℕ). k % 2) (one_down (bit_of u + 2 * marks us 0) i ∙ ap (λ (k : ℕ). k / 2 ^ i) (half u (marks us 0))) ∙ bit-marks us i

bit_true : (b : Bool) → bit_of b ≡ 1 → b ≡ true
bit_true true e = refl
bit_true false e = absurd (omega arith)

pub used_bit : (us : List Bool) (i : ℕ) → HasBit (marks us 0) i → get_or us i false ≡ true
used_bit us i h = bit_true _ (sym (bit-marks us i) ∙ h)

pub bit_used : (us : List Bool) (i : ℕ) → get_or us i false ≡ true → HasBit (marks us 0) i
bit_used us i h = bit-marks us i ∙ ap bit_of h

-- no number has a bit above its own, and 0 has none
pub no_bit_above : (n i : ℕ) → n < 2 ^ 16 → 16 ≤ i → HasBit n i → ⊥
no_bit_above n i f l h =
    let p : 2 ^ 16 ≤ 2 ^ i = pow-le-pow_right {n = 2} (omega arith) l in
    let z = none_left n i (omega (arith, p)) in omega arith

pub no_bit : (i : ℕ) → HasBit 0 i → ⊥
no_bit i h = let z = none_left 0 i (pow_pos i) in omega arith
