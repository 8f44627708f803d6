-- What a number chooses; that it was possible; and which number chooses a possible content.
-- Assumes nothing.
use Rattle.std.proofs.Common.{◌≡◌, ℕ, zero, suc, ◌<◌, ◌≤◌, eqb, ltb, ◌⊎◌, List, [], ◌∷◌, map, length, get_or, sym, refl, ◌∙◌, subst, inl, inr, arith}
use Rattle.std.proofs.lemmas.Bool.{cases_eq, cases_lt, eq-eqb, ne_eqb, lt-ltb, le-ltb, cond-true, cond-false}
use Rattle.device.specs.Sector.{Content, torn}
use Rattle.device.specs.Bytes.{content}
use Rattle.device.specs.Waiting.{OneOf, MayLeave}
use Rattle.bench.specs.Settling.{choose, chosen}

module _ {X : Type 0} (f : List ℕ → X) (t : X) (k : ℕ) (bs : List (List ℕ)) (r : X) where
  -- the number 9
  pub chooses_torn : k ≡ 9 → 0 < length bs → choose f t k bs r ≡ t
  chooses_torn e h = cond-true (eqb k 9) _ _ (eq-eqb k 9 e) ∙ cond-true (ltb 0 (length bs)) t r (lt-ltb 0 (length bs) h)

  pub chooses_whole : k ≡ 9 → length bs ≤ 0 → choose f t k bs r ≡ r
  chooses_whole e h = cond-true (eqb k 9) _ _ (eq-eqb k 9 e) ∙ cond-false (ltb 0 (length bs)) t r (le-ltb 0 (length bs) h)

  -- any other
  pub chooses_one : (k ≡ 9 → ⊥) → choose f t k bs r ≡ get_or (r ∷ map f bs) k r
  chooses_one ne = cond-false (eqb k 9) _ _ (ne_eqb k 9 ne)

-- what is chosen was possible
one_chosen : (bs : List (List ℕ)) (k : ℕ) (c : Content) → (get_or (map content bs) k c ≡ c) ⊎ OneOf bs (get_or (map content bs) k c)
one_chosen [] k c = inl refl
one_chosen (b ∷ bs) zero c = inr (inl refl)
one_chosen (b ∷ bs) (suc k) c = elim (one_chosen bs k c) [ inl e ↦ inl e | inr h ↦ inr (inr h) ]

any_chosen : (bs : List (List ℕ)) (k : ℕ) (c : Content) → MayLeave bs (λ (d : Content). d ≡ c) (get_or (c ∷ map content bs) k c)
any_chosen bs zero c = inl refl
any_chosen bs (suc k) c = elim (one_chosen bs k c) [ inl e ↦ inl e | inr h ↦ inr (inl h) ]

pub was_possible : (k : ℕ) (bs : List (List ℕ)) (c : Content) → MayLeave bs (λ (d : Content). d ≡ c) (chosen k bs c)
was_possible k bs c = elim (cases_eq k 9) [
  | inl e ↦ elim (cases_lt 0 (length bs)) [
    | inl h ↦ inr (inr (h, chooses_torn content torn k bs c e h))
    | inr h ↦ inl (chooses_whole content torn k bs c e h)
  ]
  | inr ne ↦ subst (MayLeave bs (λ (d : Content). d ≡ c)) (sym (chooses_one content torn k bs c ne)) (any_chosen bs k c)
]

-- the place of one of those that wait
place_of_one : (bs : List (List ℕ)) (d c : Content) → OneOf bs d → (k : ℕ) × (k < length bs) × (get_or (map content bs) k c ≡ d)
place_of_one [] d c h = elim h [ ]
place_of_one (b ∷ bs) d c (inl e) = (0, omega arith, sym e)
place_of_one (b ∷ bs) d c (inr h) = let p = place_of_one bs d c h in (suc p.0, (let k = p.1 in omega arith), p.2)

-- a possible content has a number that chooses it, where at most eight wait
pub number_of : (bs : List (List ℕ)) (c d : Content) → length bs ≤ 8 → MayLeave bs (λ (x : Content). x ≡ c) d → (k : ℕ) × (k < 256) × (chosen k bs c ≡ d)
number_of bs c d few (inl e) = (0, omega arith, sym e)
number_of bs c d few (inr (inl h)) =
    let p = place_of_one bs d c h in
    (suc p.0, (let k = p.1 in omega arith), chooses_one content torn (suc p.0) bs c (λ e. let k = p.1 in omega arith) ∙ p.2)
number_of bs c d few (inr (inr h)) = (9, omega arith, chooses_torn content torn 9 bs c refl h.0 ∙ sym h.1)
