-- The register after all bytes is a remainder: each step subtracts the generator where the lowest bit is one.
-- Assumes nothing.
use Rattle.std.proofs.Common.{◌≡◌, ℕ, zero, suc, ◌+◌, ◌*◌, ◌/◌, ◌%◌, ◌^◌, ◌<◌, Bool, cond, eqb, List, [], ◌∷◌, ◌++◌, length, sym, refl, ap, ◌∙◌, subst, add-zero, mul_assoc, pow-suc, div-add-mod', mul-one, mul-suc, arith, pow_pos, pow-add}
use Rattle.crc32c.proofs.Register.{xor_swap}
use Rattle.crc32c.specs.Crc.{shifted, shifted_by, byte_in, fed, crc}
use Rattle.crc32c.specs.Remainder.{Bytes, Division, Remainder, generator, times, value_of}
use lib.Bits.{bit_xor, xor_assoc, xor_block, xor_comm, xor_lt, xor_shifted, xor_zero_r}

-- n places up
raised : (n a b : ℕ) → bit_xor (a * 2 ^ n) (b * 2 ^ n) ≡ bit_xor a b * 2 ^ n
raised n a b =
    simp add-zero at (xor_block n a b 0 0 (pow_pos n) (pow_pos n))

up_one : (a n : ℕ) → a * 2 ^ n * 2 ≡ a * 2 ^ suc n
up_one a n = simp (mul_assoc, pow-suc)

-- one step, for a register whose lowest bit is b
one_step : (h b : ℕ) → b < 2 → bit_xor (h * 2 + b) (cond (eqb b 1) generator 0) ≡ bit_xor h (b * 0x82F63B78) * 2
one_step h zero small = simp (xor_zero_r, add-zero)
one_step h (suc zero) small =
    simp add-zero at (xor_block 1 h 0x82F63B78 1 1 (omega arith) (omega arith))
one_step h (suc (suc b)) small = absurd (omega arith)

low : ℕ → Bool
low r = eqb (r % 2) 1

stepped : (r : ℕ) → bit_xor r (cond (low r) generator 0) ≡ shifted r * 2
unfolding low shifted
stepped r =
    rw div-add-mod' at (one_step (r / 2) (r % 2) (omega arith))

-- n steps subtract a multiple of the generator, and leave the register n places up
steps : (n r : ℕ) → (q : List Bool) × (length q ≡ n) × (bit_xor r (times q generator) ≡ shifted_by n r * 2 ^ n)
unfolding times shifted_by
steps zero r = ([], refl, xor_zero_r r ∙ sym (mul-one r))
steps (suc n) r =
    let s = steps n (shifted r) in
    let rest : ℕ = times s.0 generator in (
      low r ∷ s.0,
      ap suc s.1,
      rw (← xor_assoc r (cond (low r) generator 0) (rest * 2), stepped r, raised 1 (shifted r) rest, s.2) (up_one (shifted_by n (shifted r)) n),
    )

times_append : (p q : List Bool) (g : ℕ) → times (p ++ q) g ≡ bit_xor (times p g) (times q g * 2 ^ length p)
unfolding times
times_append [] q g = sym (mul-one (times q g))
times_append (b ∷ p) q g =
    let up = raised 1 (times p g) (times q g * 2 ^ length p) in
    rw (times_append p q g, ← up, up_one (times q g) (length p)) (sym (xor_assoc (cond b g 0) (times p g * 2) (times q g * 2 ^ suc (length p))))

-- a byte x before a message of value v, where p was subtracted for the byte and q for the rest
byte_first : (r x v p q s f n : ℕ) → x < 256 → bit_xor (bit_xor r x) p ≡ s * 2 ^ 8 → bit_xor (bit_xor s v) q ≡ f * 2 ^ (8 * n)
    → bit_xor (bit_xor r (x + 256 * v)) (bit_xor p (q * 2 ^ 8)) ≡ f * 2 ^ (8 * suc n)
byte_first r x v p q s f n small first rest =
    let joined : x + 256 * v ≡ bit_xor x (v * 2 ^ 8)
    = omega (arith, xor_shifted v 8 x small, xor_comm (v * 2 ^ 8) x) in
    rw (joined, ← xor_assoc r x (v * 2 ^ 8), xor_swap (bit_xor r x) (v * 2 ^ 8) p (q * 2 ^ 8), first, raised 8 v q, raised 8 s (bit_xor v q), ← xor_assoc s v q, rest, mul-suc 8 n, pow-add 2 (8 * n) 8)
    (mul_assoc f (2 ^ (8 * n)) (2 ^ 8))

-- all bytes, from any register
divided : (r : ℕ) (xs : List ℕ) → Bytes xs
    → (q : List Bool) × (bit_xor (bit_xor r (value_of xs)) (times q generator) ≡ fed r xs * 2 ^ (8 * length xs))
unfolding times value_of fed
divided r [] bytes = ([], xor_zero_r (bit_xor r 0) ∙ xor_zero_r r ∙ sym (mul-one r))
divided r (x ∷ xs) bytes =
    let p = steps 8 (bit_xor r x) in
    let q = divided (byte_in r x) xs (λ i. bytes (suc i)) in (
      p.0 ++ q.0,
      rw (times_append p.0 q.0 generator, p.1)
          (byte_first r x (value_of xs) (times p.0 generator) (times q.0 generator) (byte_in r x) (fed (byte_in r x) xs) (length xs) (bytes 0) p.2 q.1),
    )

-- the register stays a word
shifted_small : (r : ℕ) → r < 2 ^ 32 → shifted r < 2 ^ 32
unfolding shifted
shifted_small r h = xor_lt 32 (r / 2) (r % 2 * 0x82F63B78) (omega arith) (omega arith)

steps_small : (n r : ℕ) → r < 2 ^ 32 → shifted_by n r < 2 ^ 32
unfolding shifted_by
steps_small zero r h = h
steps_small (suc n) r h = steps_small n (shifted r) (shifted_small r h)

fed_small : (r : ℕ) (xs : List ℕ) → r < 2 ^ 32 → Bytes xs → fed r xs < 2 ^ 32
unfolding fed
fed_small r [] h bytes = h
fed_small r (x ∷ xs) h bytes =
    let small : x < 256 = bytes 0 in
    fed_small (byte_in r x) xs (steps_small 8 (bit_xor r x) (xor_lt 32 r x h (omega arith))) (λ i. bytes (suc i))

-- the complement taken back
uncomplemented : (xs : List ℕ) → fed 0xFFFFFFFF xs ≡ bit_xor (crc xs) 0xFFFFFFFF
uncomplemented xs =
    let f : ℕ = fed 0xFFFFFFFF xs in
    sym (xor_assoc f 0xFFFFFFFF 0xFFFFFFFF ∙ xor_zero_r f)

pub division : Division
division xs bytes =
    let d = divided 0xFFFFFFFF xs bytes in
    subst (λ (R : ℕ). Remainder xs R) (uncomplemented xs)
    (record { quotient = d.0; leaves = d.1; small = fed_small 0xFFFFFFFF xs (omega arith) bytes })
