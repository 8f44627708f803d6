-- Words of four bytes each, one after another.
use Rattle.std.proofs.Common.{◌≡◌, ℕ, suc, ◌+◌, ◌*◌, ◌^◌, ◌<◌, ◌≤◌, List, [], ◌∷◌}
use Rattle.std.proofs.Common.{◌++◌, length, get_or, take, drop, set, ap, sym, ◌∙◌, refl, add-zero, rules, arith}
use Rattle.std.proofs.Math.Seq.{take-add}
use Rattle.std.proofs.lemmas.List.{take_more, take_more_set, length-drop, get_or-drop, append-nil}
use Rattle.std.proofs.lemmas.List.Concat.{flat_map-append}
use Rattle.std.proofs.lemmas.Nat.{le_bytes_4, from_le_bytes-to_le_bytes_4}
use Rattle.std.specs.Int.{w32, from_le_bytes}
use Rattle.std.specs.List.{flat_map}
use Rattle.layout.specs.Numbers.{four}

-- the bytes of one word more
fours-push : (ws : List ℕ) (w : ℕ) → flat_map four (ws ++ w ∷ []) ≡ flat_map four ws ++ four w
fours-push ws w = flat_map-append four ws (w ∷ []) ∙ ap (λ bs. flat_map four ws ++ bs) (append-nil (four w))

pub fours-take_more : (ws : List ℕ) (i : ℕ) → i < length ws
    → flat_map four (take (i + 1) ws) ≡ flat_map four (take i ws) ++ four (get_or ws i 0)
fours-take_more ws i h = ap (flat_map four) (take_more ws i 0 h) ∙ fours-push (take i ws) (get_or ws i 0)

-- the four bytes from i on
abbrev pub four_at : List ℕ → ℕ → List ℕ
four_at bs i = get_or bs i 0 ∷ get_or bs (i + 1) 0 ∷ get_or bs (i + 2) 0 ∷ get_or bs (i + 3) 0 ∷ []

front_four : (bs : List ℕ) → 4 ≤ length bs → take 4 bs ≡ four_at bs 0
front_four [] h = absurd (omega arith)
front_four (a ∷ []) h = absurd (omega arith)
front_four (a ∷ b ∷ []) h = absurd (omega arith)
front_four (a ∷ b ∷ c ∷ []) h = absurd (omega arith)
front_four (a ∷ b ∷ c ∷ d ∷ bs) h = refl

take-four_more : (bs : List ℕ) (i : ℕ) → i + 4 ≤ length bs → take (i + 4) bs ≡ take i bs ++ four_at bs i
take-four_more bs i h =
    let front = front_four (drop i bs) (omega (arith, length-drop i bs)) in
    let there : four_at (drop i bs) 0 ≡ four_at bs i = simp (get_or-drop, add-zero) in
    take-add i 4 bs ∙ ap (λ x. take i bs ++ x) (front ∙ there)

-- one word more is read
pub read_more : (bs ws : List ℕ) (i w : ℕ) → i < length ws → 4 * i + 4 ≤ length bs → ((k : ℕ) → get_or bs k 0 < 256)
    → w ≡ from_le_bytes w32 (four_at bs (4 * i)) → flat_map four (take i ws) ≡ take (4 * i) bs
    → flat_map four (take (i + 1) (set ws i w)) ≡ take (4 * (i + 1)) bs
read_more bs ws i w h l small e before =
    let m = ap (flat_map four) (take_more_set ws i w h) ∙ fours-push (take i ws) w in
    let f = le_bytes_4 (four_at bs (4 * i)) w refl (search rules) e in
    let t = take-four_more bs (4 * i) l in
    let n : 4 * (i + 1) ≡ 4 * i + 4 = omega arith in
    cc

-- no other words have the same bytes
pub fours_same : (vs ws : List ℕ) → ((k : ℕ) → get_or vs k 0 < 2 ^ 32) → ((k : ℕ) → get_or ws k 0 < 2 ^ 32)
    → flat_map four vs ≡ flat_map four ws → vs ≡ ws
fours_same [] [] g h e = refl
fours_same [] (w ∷ ws) g h e = cc
fours_same (v ∷ vs) [] g h e = cc
fours_same (v ∷ vs) (w ∷ ws) g h e =
    let f : four v ≡ four w = cc in
    let r : flat_map four vs ≡ flat_map four ws = cc in
    let head = sym (from_le_bytes-to_le_bytes_4 v (g 0)) ∙ ap (from_le_bytes w32) f ∙ from_le_bytes-to_le_bytes_4 w (h 0) in
    let tail = fours_same vs ws (λ k. g (suc k)) (λ k. h (suc k)) r in
    cc
