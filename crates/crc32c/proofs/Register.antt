-- The register of a CRC-32C: its steps are linear over xor, so a byte can be taken at once, by a table of 256 entries.
-- Assumes nothing.
use Rattle.std.proofs.Common.{◌≡◌, ℕ, zero, suc, ◌*◌, ◌/◌, ◌%◌, ◌^◌, ◌<◌, List, get_or, map, refl, ◌∙◌, mod-lt, mul_assoc, pow-suc, zero-mul, zero-add, mul-one, arith, pow_pos}
use Rattle.std.proofs.lemmas.List.FromFn.{get_or-map-range_with_len}
use Rattle.std.specs.List.{range_with_len}
use Rattle.crc32c.specs.Crc.{shifted, shifted_by}
use lib.Bits.{bit_xor, bit_and, xor_shr, xor_mod, xor_assoc, xor_comm, xor_self, xor_zero_r, xor_shifted, and_mask, mask_lt}
use lib.Pow.{split}

-- two pairs under xor change partners
pub xor_swap : (a b c d : ℕ) → bit_xor (bit_xor a b) (bit_xor c d) ≡ bit_xor (bit_xor a c) (bit_xor b d)
xor_swap a b c d = grind (arith, xor_assoc, xor_comm)

-- a bit times a number is linear in the bit
xor_bit : (m n p : ℕ) → m < 2 → n < 2 → bit_xor m n * p ≡ bit_xor (m * p) (n * p)
xor_bit zero n p hm hn = simp zero-mul
xor_bit (suc zero) zero p hm hn = simp (zero-mul, xor_zero_r)
xor_bit (suc zero) (suc zero) p hm hn = simp (zero-mul, xor_self)
xor_bit (suc zero) (suc (suc n)) p hm hn = absurd (omega arith)
xor_bit (suc (suc m)) n p hm hn = absurd (omega arith)

shifted_xor : (a b : ℕ) → shifted (bit_xor a b) ≡ bit_xor (shifted a) (shifted b)
unfolding shifted
shifted_xor a b =
    let linear = xor_bit (a % 2) (b % 2) 0x82F63B78 (omega arith) (omega arith) in
    rw (xor_shr a b 1, xor_mod a b 1, linear) (xor_swap (a / 2) (b / 2) (a % 2 * 0x82F63B78) (b % 2 * 0x82F63B78))

shifted_by_xor : (n a b : ℕ) → shifted_by n (bit_xor a b) ≡ bit_xor (shifted_by n a) (shifted_by n b)
unfolding shifted_by
shifted_by_xor zero a b = refl
shifted_by_xor (suc n) a b = rw (shifted_xor a b) (shifted_by_xor n (shifted a) (shifted b))

-- where zeros fall out, the register is only halved
shifted_even : (a : ℕ) → shifted (a * 2) ≡ a
unfolding shifted
shifted_even a =
    let half : a * 2 / 2 ≡ a = omega arith in
    let low : a * 2 % 2 ≡ 0 = omega arith in
    rw (half, low) (xor_zero_r a)

shifted_by_high : (n a : ℕ) → shifted_by n (a * 2 ^ n) ≡ a
unfolding shifted_by
shifted_by_high zero a = mul-one a
shifted_by_high (suc n) a = rw (pow-suc 2 n, ← mul_assoc a (2 ^ n) 2, shifted_even (a * 2 ^ n)) (shifted_by_high n a)

-- n steps at once: the upper bits move down, and the n bits that fall out decide what is subtracted
at_once : (n a : ℕ) → bit_xor (a / 2 ^ n) (shifted_by n (a % 2 ^ n)) ≡ shifted_by n a
at_once n a =
    let parts = shifted_by_xor n (a / 2 ^ n * 2 ^ n) (a % 2 ^ n) in
    let whole = xor_shifted (a / 2 ^ n) n (a % 2 ^ n) (mod-lt a (pow_pos n)) ∙ split a n in
    cc (parts, whole, shifted_by_high n (a / 2 ^ n))

-- the table's rule: entry i is i after eight steps
abbrev pub entries : List ℕ
entries = map (shifted_by 8) (range_with_len 0 256)

-- eight steps by the table: its entry for the low byte
pub by_table : (table : List ℕ) → table ≡ entries → (a : ℕ) → bit_xor (a / 256) (get_or table (bit_and a 255) 0) ≡ shifted_by 8 a
by_table table e a =
    let entry = get_or-map-range_with_len (shifted_by 8) 0 256 (bit_and a 255) (bit_and a 255) 0 (mask_lt a 8) (zero-add _) in
    cc (e, entry, and_mask a 8, at_once 8 a)
