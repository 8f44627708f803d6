-- Marks of slots, and the number above them.
use Rattle.std.proofs.Common.{◌≡◌, ℕ, zero, suc, ◌+◌, ◌-◌, ◌*◌, ◌/◌, ◌%◌, ◌^◌, ◌<◌, ◌≤◌, ◌==◌, Bool}
use Rattle.std.proofs.Common.{true, false, List, [], ◌∷◌, ◌++◌, length, get_or, take, drop, set, ap, ◌∙◌, refl, arith}
use Rattle.std.proofs.lemmas.Bool.Decides.{nat_tests}
use Rattle.std.proofs.Math.Nat.{pow-succ'}
use Rattle.std.proofs.lemmas.Nat.{pow_pos}
use Rattle.std.proofs.lemmas.List.{at_drop_more, take_more_set, length-drop}
use Rattle.std.specs.Int.{from_bool}
use Rattle.layout.specs.Bodies.{bit_of, marks}

bit_below : (b : Bool) → bit_of b < 2
bit_below true = omega arith
bit_below false = omega arith

bit_of_test : (n : ℕ) → bit_of (n % 2 == 1) + 2 * (n / 2) ≡ n
bit_of_test n = grind (arith, nat_tests)

bit_of_is : (b : Bool) → bit_of b ≡ from_bool b
bit_of_is true = refl
bit_of_is false = refl

marks-push : (us : List Bool) (b : Bool) (above : ℕ) → marks (us ++ b ∷ []) above ≡ marks us (bit_of b + 2 * above)
unfolding marks
marks-push [] b above = refl
marks-push (u ∷ us) b above = ap (λ m. bit_of u + 2 * m) (marks-push us b above)

-- one slot more is read
pub marks-take_more : (us : List Bool) (i n : ℕ) → i < length us
    → marks (take (i + 1) (set us i (n % 2 == 1))) (n / 2) ≡ marks (take i us) n
marks-take_more us i n h =
    ap (λ vs. marks vs (n / 2)) (take_more_set us i _ h) ∙ marks-push (take i us) _ _ ∙ ap (marks (take i us)) (bit_of_test n)

marks-drop : (us : List Bool) (i above : ℕ) → i < length us
    → marks (drop i us) above ≡ bit_of (get_or us i false) + 2 * marks (drop (i + 1) us) above
unfolding marks
marks-drop us i above h = at_drop_more (λ vs. marks vs above) us i false h

-- n marks and a code have n bits and three
pub marks-below : (us : List Bool) (code n : ℕ) → code < 8 → length us ≤ n → marks us code < 8 * 2 ^ n
unfolding marks
marks-below [] code n h l = omega (arith, pow_pos n)
marks-below (u ∷ us) code zero h l = absurd (omega arith)
marks-below (u ∷ us) code (suc n) h l =
    let b = bit_below u in
    let m = marks-below us code n h (omega arith) in
    omega (arith, pow-succ' 2 n)

-- one slot more is written, from slot i + 1 down: the head word it makes, which fits
pub marks_down : (us : List Bool) (i head code : ℕ) → length us ≡ 10 → code < 8 → (0 < i) × (i ≤ 10) → head ≡ marks (drop i us) code
    → (from_bool (get_or us (i - 1) false) + 2 * head ≡ marks (drop (i - 1) us) code)
    × (from_bool (get_or us (i - 1) false) + 2 * head < 2 ^ 13)
marks_down us i head code l h k e =
    let s : i - 1 + 1 ≡ i = omega arith in
    let d = marks-drop us (i - 1) code (omega arith) in
    let b = bit_of_is (get_or us (i - 1) false) in
    let made : from_bool (get_or us (i - 1) false) + 2 * head ≡ marks (drop (i - 1) us) code = cc in
    let m = marks-below (drop (i - 1) us) code 10 h (omega (arith, length-drop (i - 1) us)) in
    (made, omega arith)

same_bits : (b d : Bool) (m n : ℕ) → bit_of b + 2 * m ≡ bit_of d + 2 * n → (b ≡ d) × (m ≡ n)
same_bits true true m n e = (refl, omega arith)
same_bits true false m n e = absurd (omega arith)
same_bits false true m n e = absurd (omega arith)
same_bits false false m n e = (refl, omega arith)

-- no other marks and no other number above them give the same
pub marks_same : (us vs : List Bool) (m n : ℕ) → length us ≡ length vs → marks us m ≡ marks vs n → (us ≡ vs) × (m ≡ n)
unfolding marks
marks_same [] [] m n l e = (refl, e)
marks_same [] (v ∷ vs) m n l e = absurd (omega arith)
marks_same (u ∷ us) [] m n l e = absurd (omega arith)
marks_same (u ∷ us) (v ∷ vs) m n l e =
    let h = same_bits u v _ _ e in
    let t = marks_same us vs m n (omega arith) h.1 in
    (cc, t.1)
