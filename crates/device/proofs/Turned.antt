-- A ring of places, turned so that its oldest comes first: how many it holds, one more in it, what stands in it, and what it
-- holds without its oldest. Assumes nothing.
use Rattle.std.proofs.Common.{◌≡◌, ℕ, suc, ◌+◌, ◌-◌, ◌<◌, ◌≤◌, List, [], ◌∷◌, ◌++◌, length, get_or, take, drop, set, sym, ap, ◌∙◌, inl, inr, append_assoc, append-nil, add-zero, add-one, arith}
use lib.Seq.{take-set-lt}
use Rattle.std.proofs.lemmas.List.{take-set-le, drop-set-add, drop-set-lt, set-append_left, set-append_right, take_more_set, take_more, drop_more, length-append, length-drop, length-take-le, take-append-le, take_all, drop_all, get_or_append_left, get_or-append_right, get_or-take, get_or-drop}
use Rattle.std.proofs.lemmas.Bool.{cases_lt}
use Rattle.device.specs.Queues.{ring}

module _ {X : Type 0} where
  unfoldable turned : List X → ℕ → List X
  turned xs f = drop f xs ++ take f xs

  turned_past : (xs : List X) (f : ℕ) → length xs ≤ f → turned xs f ≡ xs
  unfolding turned
  turned_past xs f h =
      let a = drop_all f xs h in
      let b = take_all f xs h in
      let c : drop f xs ++ take f xs ≡ [] ++ xs = cc in
      c

  length_turned : (xs : List X) (f : ℕ) → length (turned xs f) ≡ length xs
  unfolding turned
  length_turned xs f = elim (cases_lt f (length xs)) [
    | inl h ↦
        let a = length-append (drop f xs) (take f xs) in
        let b = length-drop f xs in
        let c = length-take-le f xs (omega arith) in
        omega arith
    | inr h ↦ ap length (turned_past xs f h)
  ]

  -- the place `at` of the list is the place `k` of the turned ring, for a write and for a read
  record Stands (xs : List X) (f k at : ℕ) : Type 0 where
    put : (x : X) → turned (set xs at x) f ≡ set (turned xs f) k x
    read : (d : X) → get_or (turned xs f) k d ≡ get_or xs at d

  -- up to the last place
  stands_near : (xs : List X) (f k : ℕ) → f + k < length xs → Stands xs f k (f + k)
  unfolding turned
  stands_near xs f k h =
      let n : k < length (drop f xs) = let l = length-drop f xs in omega arith in
      record {
        put = λ x.
            let a = drop-set-add f xs k x in
            let b = take-set-le f xs (f + k) x (omega arith) in
            let c = set-append_left (drop f xs) (take f xs) k x n in
            cc;
        read = λ d. get_or_append_left (drop f xs) (take f xs) d k n ∙ get_or-drop f xs k d;
      }

  -- and from place 0 on
  stands_round : (xs : List X) (f k at : ℕ) → at < f → f ≤ length xs → at + length xs ≡ f + k → Stands xs f k at
  unfolding turned
  stands_round xs f k at h l e =
      let n : length (drop f xs) ≡ length xs - f = length-drop f xs in
      let i : k - (length xs - f) ≡ at = omega arith in
      record {
        put = λ x.
            let a = drop-set-lt f xs at x h in
            let b = take-set-lt f xs at x h in
            let c = set-append_right (drop f xs) (take f xs) (length xs - f) k x n (omega arith) in
            cc;
        read = λ d.
            get_or-append_right (drop f xs) (take f xs) (length xs - f) k d n (omega arith)
            ∙ ap (λ (z : ℕ). get_or (take f xs) z d) i
            ∙ get_or-take f xs at d h;
      }

  -- all but the oldest, which stands first
  rest_of : (xs : List X) (f g n : ℕ) (d : X) → f < length xs → n < length xs → turned xs g ≡ (drop (f + 1) xs ++ take f xs) ++ get_or xs f d ∷ []
      → ring xs f (n + 1) ≡ get_or xs f d ∷ ring xs g n
  unfolding turned
  rest_of xs f g n d h l t =
      let x = get_or xs f d in
      let m : n ≤ length (drop (f + 1) xs ++ take f xs) =
      let a = length-append (drop (f + 1) xs) (take f xs) in
      let b = length-drop (f + 1) xs in
      let c = length-take-le f xs (omega arith) in
      omega arith in
      let r : take n (turned xs g) ≡ take n (drop (f + 1) xs ++ take f xs) =
      ap (take n) t ∙ take-append-le n (drop (f + 1) xs ++ take f xs) (x ∷ []) m in
      ap (λ (z : ℕ). take z (turned xs f)) (add-one n)
      ∙ ap (λ (z : List X). take (suc n) (z ++ take f xs)) (drop_more xs f d h)
      ∙ ap (λ (z : List X). x ∷ z) (sym r)

  -- turned by one more, the oldest comes last
  one_more : (xs : List X) (f : ℕ) (d : X) → f < length xs → turned xs (f + 1) ≡ (drop (f + 1) xs ++ take f xs) ++ get_or xs f d ∷ []
  unfolding turned
  one_more xs f d h =
      ap (λ (z : List X). drop (f + 1) xs ++ z) (take_more xs f d h)
      ∙ sym (append_assoc (drop (f + 1) xs) (take f xs) (get_or xs f d ∷ []))

  -- one more, behind all others
  puts : (xs : List X) (f n at : ℕ) (x : X) → Stands xs f n at → n < length xs → ring (set xs at x) f (n + 1) ≡ ring xs f n ++ x ∷ []
  unfolding turned
  puts xs f n at x s l = ap (take (n + 1)) (s.put x) ∙ take_more_set (turned xs f) n x (let t = length_turned xs f in omega arith)

  -- the one before which `n` others came
  reads : (xs : List X) (f k n at : ℕ) (d : X) → Stands xs f n at → n < k → get_or (ring xs f k) n d ≡ get_or xs at d
  unfolding turned
  reads xs f k n at d s h = get_or-take k (turned xs f) n d h ∙ s.read d

  module _ (xs : List X) (f : ℕ) where
    pub puts_near : (n : ℕ) (x : X) → f + n < length xs → ring (set xs (f + n) x) f (n + 1) ≡ ring xs f n ++ x ∷ []
    puts_near n x h = puts xs f n (f + n) x (stands_near xs f n h) (omega arith)

    pub puts_round : (n at : ℕ) (x : X) → at < f → f ≤ length xs → at + length xs ≡ f + n → n < length xs → ring (set xs at x) f (n + 1) ≡ ring xs f n ++ x ∷ []
    puts_round n at x h l e m = puts xs f n at x (stands_round xs f n at h l e) m

    pub reads_near : (k n : ℕ) (d : X) → f + n < length xs → n < k → get_or (ring xs f k) n d ≡ get_or xs (f + n) d
    reads_near k n d h = reads xs f k n (f + n) d (stands_near xs f n h)

    -- the oldest
    oldest : (k : ℕ) (x : X) → f < length xs → 0 < k → get_or (ring xs f k) 0 x ≡ get_or xs f x
    oldest k x h l = reads_near k 0 x (omega arith) l ∙ ap (λ (z : ℕ). get_or xs z x) (add-zero f)

    -- all but the oldest stand from the next place on, or from place 0 where the oldest stands at the last
    pub rest_near : (k : ℕ) (x : X) → f < length xs → 0 < k → k ≤ length xs → ring xs f k ≡ get_or (ring xs f k) 0 x ∷ ring xs (f + 1) (k - 1)
    rest_near k x h l fits =
        ap (ring xs f) (omega arith)
        ∙ rest_of xs f (f + 1) (k - 1) x h (omega arith) (one_more xs f x h)
        ∙ ap (λ (z : X). z ∷ ring xs (f + 1) (k - 1)) (sym (oldest k x h l))

    pub rest_round : (k : ℕ) (x : X) → length xs ≤ f + 1 → f < length xs → 0 < k → k ≤ length xs → ring xs f k ≡ get_or (ring xs f k) 0 x ∷ ring xs 0 (k - 1)
    unfolding turned
    rest_round k x m h l fits =
        let t : turned xs 0 ≡ turned xs (f + 1) = append-nil xs ∙ sym (turned_past xs (f + 1) m) in
        ap (ring xs f) (omega arith)
        ∙ rest_of xs f 0 (k - 1) x h (omega arith) (t ∙ one_more xs f x h)
        ∙ ap (λ (z : X). z ∷ ring xs 0 (k - 1)) (sym (oldest k x h l))
