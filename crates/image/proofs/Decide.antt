-- Decisions: something holds, or it does not. A lemma whose name ends in `or` decides what the rest of its name says.
-- Assumes nothing.
use Rattle.std.proofs.Common.{◌≡◌, ℕ, zero, suc, ◌<◌, ◌≤◌, ◌⊎◌, Bool, true, false, List, [], ◌∷◌, length, get_or}
use Rattle.std.proofs.Common.{sym, refl, ap, subst, inl, inr, arith}
use Rattle.std.proofs.Math.Logic.{⊎_map, ⊎_swap}
use Rattle.std.proofs.lemmas.Bool.{cases_lt, cases_eq, false≢true}
use Rattle.device.specs.Sector.{Content, payload, torn}
use Rattle.image.proofs.Readings.{payload_one}

abbrev pub Decided : Type 0 → Type 0
Decided P = P ⊎ (P → ⊥)

-- what comes to the same as something decided
pub like : {P Q : Type 0} → (P → Q) → (Q → P) → Decided P → Decided Q
like f g d = ⊎_map f (λ ne q. ne (g q)) d

pub both_or : {P Q : Type 0} → Decided P → Decided Q → Decided (P × Q)
both_or (inl p) d = like (λ q. (p, q)) (λ x. x.1) d
both_or (inr ne) d = inr (λ x. ne x.0)

pub one_or : {P Q : Type 0} → Decided P → Decided Q → Decided (P ⊎ Q)
one_or (inl p) d = inl (inl p)
one_or (inr ne) d = like inr (elim [ inl p ↦ absurd (ne p) | inr q ↦ q ]) d

pub if_or : {P Q : Type 0} → Decided P → Decided Q → Decided (P → Q)
if_or (inl p) d = like (λ q _. q) (λ f. f p) d
if_or (inr ne) d = inl (λ p. absurd (ne p))

-- the order of numbers, a test, and whether lists are the same
pub le_or : (m n : ℕ) → Decided (m ≤ n)
le_or m n = grind arith

pub true_or : (b : Bool) → Decided (b ≡ true)
true_or true = inl refl
true_or false = inr false≢true

pub lists_or : (xs ys : List ℕ) → Decided (xs ≡ ys)
lists_or [] [] = inl refl
lists_or (x ∷ xs) (y ∷ ys) = like (λ e. cc (e.0, e.1)) (λ e. (cc, cc)) (both_or (cases_eq x y) (lists_or xs ys))
lists_or _ _ = inr (λ e. cc)

-- whether a sector holds the bytes f x of some x, where that is decided of any bytes
pub payload_or : {X : Type 0} (f : X → List ℕ) (c : Content) → ((b : List ℕ) → Decided ((x : X) × (f x ≡ b)))
    → Decided ((x : X) × (c ≡ payload (f x)))
payload_or f torn d = inr (λ x. cc (x.1))
payload_or f (payload b) d = like (λ x. (x.0, ap payload (sym x.1))) (λ x. (x.0, sym (payload_one _ _ x.1))) (d b)

-- P holds of one thing at most: whether Q and P hold of one
pub narrow_or : {X : Type 0} {P Q : X → Type 0} → ((x y : X) → P x → P y → x ≡ y) → Decided ((x : X) × P x) → ((x : X) → Decided (Q x))
    → Decided ((x : X) × (Q x × P x))
narrow_or {Q = Q} one (inl (x, p)) d = like (λ q. (x, (q, p))) (λ (y, (q, r)). subst Q (one y x r p) q) (d x)
narrow_or one (inr ne) d = inr (λ (y, (q, r)). ne (y, r))

-- the first number from lo on and below hi of which P holds, with Q of those before it; or Q holds of all of them
pub first : (P Q : ℕ → Type 0) (lo hi : ℕ) → ((k : ℕ) → P k ⊎ Q k)
    → ((k : ℕ) × (lo ≤ k) × (k < hi) × P k × ((j : ℕ) → lo ≤ j → j < k → Q j)) ⊎ ((j : ℕ) → lo ≤ j → j < hi → Q j)
first P Q lo zero d = inr (λ j l m. absurd (omega arith))
first P Q lo (suc hi) d = elim (first P Q lo hi d) [
  | inl (k, l, m, p, before) ↦ inl (k, l, omega arith, p, before)
  | inr before ↦ elim (cases_lt hi lo) [
    | inl l ↦ inr (λ j m n. absurd (omega arith))
    | inr l ↦ ⊎_map (λ p. (hi, l, omega arith, p, before))
        (λ q j m n. elim (cases_eq j hi) [ inl e ↦ subst Q (sym e) q | inr ne ↦ before j m (omega arith) ]) (d hi)
  ]
]

-- The lowest number of which P holds, if there is one; whether there is one; and whether P holds of all numbers. Each P k is decided, and
-- what P is from hi on is known.
module _ (P : ℕ → Type 0) (hi : ℕ) (d : (k : ℕ) → Decided (P k)) where
  pub lowest_or : ((k : ℕ) → P k → k < hi) → ((k : ℕ) × (P k × ((j : ℕ) → j < k → P j → ⊥))) ⊎ ((k : ℕ) → P k → ⊥)
  lowest_or below = ⊎_map (λ (k, l, m, p, none). (k, (p, λ j n. none j (omega arith) n))) (λ none k p. none k (omega arith) (below k p) p)
      (first P (λ k. P k → ⊥) 0 hi d)

  pub some_or : ((k : ℕ) → P k → k < hi) → Decided ((k : ℕ) × P k)
  some_or below = ⊎_map (λ (k, x). (k, x.0)) (λ none (k, p). none k p) (lowest_or below)

  pub each_or : ((k : ℕ) → hi ≤ k → P k) → Decided ((k : ℕ) → P k)
  each_or past = ⊎_swap (⊎_map (λ (k, l, m, ne, before) f. ne (f k))
      (λ all k. elim (cases_lt k hi) [ inl l ↦ all k (omega arith) l | inr l ↦ past k l ])
      (first (λ k. P k → ⊥) P 0 hi (λ k. ⊎_swap (d k))))

-- a list of what there is for each number below n
pub listed : {X : Type 0} (d : X) (P : ℕ → X → Type 0) (n : ℕ) → ((i : ℕ) → i < n → (x : X) × P i x)
    → (xs : List X) × (length xs ≡ n) × ((i : ℕ) → i < n → P i (get_or xs i d))
listed d P zero f = ([], refl, λ i l. absurd (omega arith))
listed d P (suc n) f =
    let x = f 0 (omega arith) in
    let r = listed d (λ i y. P (suc i) y) n (λ i l. f (suc i) (omega arith)) in
    (x.0 ∷ r.0, ap suc r.1, elim [ zero ↦ λ l. x.1 | suc i ↦ λ l. r.2 i (omega arith) ])
