-- Kinds of data words, and their values.
use Rattle.std.proofs.Common.{◌≡◌, ℕ, zero, suc, ◌+◌, ◌-◌, ◌*◌, ◌%◌, ◌/◌, ◌^◌, ◌<◌, ◌≤◌, ◌==◌, true, false}
use Rattle.std.proofs.Common.{cond, List, [], ◌∷◌, ◌++◌, length, get_or, take, drop, set, map, ap, sym, ◌∙◌, refl, arith}
use Rattle.std.proofs.Math.Nat.{pow-succ'}
use Rattle.std.proofs.lemmas.List.{at_drop_more, length-drop, drop_more, take_more_set, append_assoc, append-nil, take_all, drop_all}
use Rattle.layout.specs.declared.word.Word.{Word}
use Rattle.layout.specs.declared.word.Word.TheVariants.{Number, Reference}
use Rattle.layout.specs.Words.{kind_of, value_of}
use Rattle.layout.specs.Bodies.{kinds}

kind_below : (w : Word) → kind_of w < 2
kind_below (Number n) = omega arith
kind_below (Reference h) = omega arith

kinds-drop : (ws : List Word) (i : ℕ) → i < length ws → kinds (drop i ws) ≡ kind_of (get_or ws i (Number 0)) + 4 * kinds (drop (i + 1) ws)
unfolding kinds
kinds-drop ws i h = at_drop_more kinds ws i (Number 0) h

-- n kinds have 2n bits
pub kinds-below : (ws : List Word) (n : ℕ) → length ws ≤ n → kinds ws < 4 ^ n
unfolding kinds
kinds-below [] zero h = omega arith
kinds-below [] (suc n) h =
    let m = kinds-below [] n (omega arith) in
    omega (arith, pow-succ' 4 n)
kinds-below (w ∷ ws) zero h = absurd (omega arith)
kinds-below (w ∷ ws) (suc n) h =
    let b = kind_below w in
    let m = kinds-below ws n (omega arith) in
    omega (arith, pow-succ' 4 n)

-- one word's kind more is written, from word i + 1 down: the head word it makes, which fits
pub kinds_down : (ws : List Word) (i head : ℕ) → length ws ≡ 10 → (0 < i) × (i ≤ 10) → head ≡ kinds (drop i ws)
    → (kind_of (get_or ws (i - 1) (Number 0)) + 4 * head ≡ kinds (drop (i - 1) ws))
    × (kind_of (get_or ws (i - 1) (Number 0)) + 4 * head < 4 ^ 10)
kinds_down ws i head l k e =
    let s : i - 1 + 1 ≡ i = omega arith in
    let d = kinds-drop ws (i - 1) (omega arith) in
    let made : kind_of (get_or ws (i - 1) (Number 0)) + 4 * head ≡ kinds (drop (i - 1) ws) = cc in
    let m = kinds-below (drop (i - 1) ws) 10 (omega (arith, length-drop (i - 1) ws)) in
    (made, omega arith)

-- the word of a kind and a value, where every kind but 1 is taken for a number's
abbrev pub word_of : ℕ → ℕ → Word
word_of kind value = cond (kind == 1) (Reference record { 0 = value }) (Number value)

-- the words of the kinds that a head word tells, and of these values
unfoldable pub words_of : ℕ → List ℕ → List Word
words_of head [] = []
words_of head (v ∷ vs) = word_of (head % 4) v ∷ words_of (head / 4) vs

value_of_word : (kind value : ℕ) → value_of (word_of kind value) ≡ value
value_of_word kind value =
    elim (kind == 1) as (λ b. value_of (cond b (Reference record { 0 = value }) (Number value)) ≡ value)
    [ true ↦ refl | false ↦ refl ]

pub map-words_of : (head : ℕ) (vs : List ℕ) → map value_of (words_of head vs) ≡ vs
unfolding words_of
map-words_of head [] = refl
map-words_of head (v ∷ vs) =
    let h = value_of_word (head % 4) v in
    let t = map-words_of (head / 4) vs in
    cc

word_of_itself : (w : Word) → word_of (kind_of w) (value_of w) ≡ w
word_of_itself (Number n) = refl
word_of_itself (Reference h) = refl

-- words are told by their kinds and values
words_of_theirs : (ws : List Word) → words_of (kinds ws) (map value_of ws) ≡ ws
unfolding words_of kinds
words_of_theirs [] = refl
words_of_theirs (w ∷ ws) =
    let k = kind_below w in
    let m : (kind_of w + 4 * kinds ws) % 4 ≡ kind_of w = omega arith in
    let d : (kind_of w + 4 * kinds ws) / 4 ≡ kinds ws = omega arith in
    let h = word_of_itself w in
    let t = words_of_theirs ws in
    grind (arith, m, d, h, t)

-- one word more is read
pub words_of-more : (ws : List Word) (vs : List ℕ) (i n : ℕ) → i < length ws → i < length vs
    → take (i + 1) (set ws i (word_of (n % 4) (get_or vs i 0))) ++ words_of (n / 4) (drop (i + 1) vs) ≡ take i ws ++ words_of n (drop i vs)
unfolding words_of
words_of-more ws vs i n h k =
    let w = word_of (n % 4) (get_or vs i 0) in
    let front = take_more_set ws i w h in
    let rest = ap (words_of n) (drop_more vs i 0 k) in
    let joined = append_assoc (take i ws) (w ∷ []) (words_of (n / 4) (drop (i + 1) vs)) in
    cc

-- every word is read
pub words_of-all : (ws : List Word) (vs : List ℕ) (i n head : ℕ) → length ws ≤ i → length vs ≤ i
    → take i ws ++ words_of n (drop i vs) ≡ words_of head vs
    → ws ≡ words_of head vs
unfolding words_of
words_of-all ws vs i n head h k e = sym (append-nil ws) ∙ (rw (take_all, drop_all) at e)

-- what has these kinds and values is what is read of them
pub words_of_only : (ws : List Word) (head : ℕ) (vs : List ℕ) → kinds ws ≡ head → map value_of ws ≡ vs → words_of head vs ≡ ws
words_of_only ws head vs k v =
    let theirs = words_of_theirs ws in
    cc
