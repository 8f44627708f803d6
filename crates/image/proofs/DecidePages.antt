-- Decided of a body: whether it is that of a lawful page.
-- Assumes nothing.
use Rattle.std.proofs.Common.{◌≡◌, ℕ, zero, suc, ◌+◌, ◌*◌, ◌/◌, ◌%◌, ◌^◌, ◌<◌, ◌==◌, ◌⊎◌, Bool, false, List, [], ◌∷◌, length, get_or}
use Rattle.std.proofs.Common.{sym, refl, ap, ◌∙◌, inl, inr, arith}
use Rattle.std.specs.Int.{w32, from_le_bytes}
use Rattle.std.specs.List.{flat_map}
use Rattle.std.proofs.lemmas.Nat.{from_le_bytes-to_le_bytes_4}
use Rattle.std.proofs.lemmas.List.{get_or_past}
use Rattle.std.proofs.lemmas.Bool.{cases_lt, cases_eq, both_ways}
use Rattle.std.proofs.lemmas.Bool.Decides.{nat_tests}
use Rattle.layout.specs.declared.class.Class.{Class}
use Rattle.layout.specs.declared.class.Class.TheVariants.{Free, One, Two, Three, Five, Ten, Root}
use Rattle.layout.specs.declared.word.Word.{Word}
use Rattle.layout.specs.declared.word.Word.TheVariants.{Number, Reference}
use Rattle.layout.specs.declared.page.Page.{Page}
use Rattle.layout.specs.Numbers.{four}
use Rattle.layout.specs.Classes.{code_of, slots_of, Takes}
use Rattle.layout.specs.Words.{value_of}
use Rattle.layout.specs.Pages.{IsUsed, word_at, InObject, Outside, Shaped, Lawful}
use Rattle.layout.specs.Bodies.{bit_of, marks, kinds, body_words, body_bytes}
use Rattle.layout.proofs.Marks.{marks_same}
use Rattle.layout.proofs.DataKinds.{words_of, map-words_of, words_of_only}
use Rattle.layout.proofs.OneBody.{words_fit, same_page}
use Rattle.image.proofs.Decide.{Decided, like, both_or, one_or, if_or, le_or, true_or, lists_or, narrow_or, some_or, each_or}

-- what a page is lawful by: its class, its marks, and the words outside its objects
root_or : (c : Class) → Decided (c ≡ Root)
root_or Root = inl refl
root_or _ = inr (λ e. cc)

outside_or : (c : Class) (w : Word) → Decided (Outside c w)
outside_or c (Number n) = cases_eq n 0
outside_or c (Reference h) = root_or c

takes_or : (c : Class) (i j : ℕ) → Decided (Takes c i j)
takes_or c i j = grind arith

module _ (p : Page) where
  -- a page has no used slots but those that it marks
  used_inside : (i : ℕ) → IsUsed p i → i < length p.used
  used_inside i u = elim (cases_lt i (length p.used)) [ inl l ↦ l | inr l ↦ absurd (both_ways _ (get_or_past p.used i false l) u) ]

  in_object_or : (j : ℕ) → Decided (InObject p j)
  in_object_or j = like (λ (i, (u, t)). (i, u, t)) (λ (i, u, t). (i, (u, t)))
      (some_or (λ i. IsUsed p i × Takes p.class i j) (length p.used)
      (λ i. both_or (true_or _) (takes_or p.class i j)) (λ i x. used_inside i x.0))

  shaped_or : Decided (Shaped p)
  shaped_or = like (λ (a, (b, c)). record { ten_marks = a; ten_words = b; fit = c }) (λ s. (s.ten_marks, (s.ten_words, s.fit)))
      (both_or (cases_eq (length p.used) 10) (both_or (cases_eq (length p.words) 10)
      (each_or (λ j. value_of (word_at p j) < 2 ^ 32) (length p.words)
      (λ j. le_or _ _) (λ j l. rw (get_or_past p.words j (Number 0) l) (omega arith)))))

  slots_or : Decided ((i : ℕ) → IsUsed p i → i < slots_of p.class)
  slots_or = each_or (λ i. IsUsed p i → i < slots_of p.class) (length p.used) (λ i. if_or (true_or _) (le_or _ _))
      (λ i l u. absurd (omega (arith, used_inside i u)))

  words_outside_or : Decided ((j : ℕ) → j < 10 → InObject p j ⊎ Outside p.class (word_at p j))
  words_outside_or = each_or (λ j. j < 10 → InObject p j ⊎ Outside p.class (word_at p j)) 10
      (λ j. if_or (le_or _ _) (one_or (in_object_or j) (outside_or p.class (word_at p j)))) (λ j l m. absurd (omega arith))

  some_used_or : Decided (0 < slots_of p.class → (i : ℕ) × IsUsed p i)
  some_used_or = if_or (le_or _ _) (some_or (IsUsed p) (length p.used) (λ i. true_or _) used_inside)

  lawful_or : (root : Bool) → Decided (Lawful root p)
  lawful_or root = like (λ ((a, b), (c, (d, e))). record { shaped = a; place = b; slots = c; some = d; outside = e })
      (λ l. ((l.shaped, l.place), (l.slots, (l.some, l.outside))))
      (both_or (both_or shaped_or (both_or (if_or (true_or root) (root_or p.class)) (if_or (root_or p.class) (true_or root))))
      (both_or slots_or (both_or some_used_or words_outside_or)))

-- the only words that can have the bytes
abbrev words_in : List ℕ → List ℕ
words_in (a ∷ b ∷ c ∷ d ∷ bs) = from_le_bytes w32 (a ∷ b ∷ c ∷ d ∷ []) ∷ words_in bs
words_in _ = []

words_in-fours : (ws : List ℕ) → ((k : ℕ) → get_or ws k 0 < 2 ^ 32) → words_in (flat_map four ws) ≡ ws
words_in-fours [] h = refl
words_in-fours (w ∷ ws) h = let e = from_le_bytes-to_le_bytes_4 w (h 0) in let i = words_in-fours ws (λ k. h (suc k)) in cc

-- each number is the marks of n slots with a number above them
marked : (n m : ℕ) → (us : List Bool) × ((above : ℕ) × (length us ≡ n) × (marks us above ≡ m))
unfolding marks
marked zero m = ([], (m, refl, refl))
marked (suc n) m =
    let x = marked n (m / 2) in
    let e : bit_of (m % 2 == 1) + 2 * (m / 2) ≡ m = grind (arith, nat_tests) in
    ((m % 2 == 1) ∷ x.0, (x.1.0, ap suc x.1.1, ap (λ k. bit_of (m % 2 == 1) + 2 * k) x.1.2 ∙ e))

-- a class with this code
abbrev class_of : ℕ → Class
class_of code = get_or (Free ∷ One ∷ Two ∷ Three ∷ Five ∷ Ten ∷ Root ∷ []) code Free

class_of-code : (c : Class) → class_of (code_of c) ≡ c
class_of-code Free = refl
class_of-code _ = refl

class_or : (code : ℕ) → Decided ((c : Class) × (code_of c ≡ code))
class_or code = like (λ e. (class_of code, e)) (λ (c, e). ap code_of (sym (ap class_of e) ∙ class_of-code c) ∙ e)
    (cases_eq (code_of (class_of code)) code)

-- a page with these words
words_or : (ws : List ℕ) → Decided ((p : Page) × ((length p.used ≡ 10) × (body_words p ≡ ws)))
words_or (m ∷ k ∷ vs) =
    let x = marked 10 m in
    like (λ ((c, e), f). (record { class = c; used = x.0; words = words_of k vs }, (x.1.1, cc (e, x.1.2, f, map-words_of k vs))))
    (λ (p, (l, e)).
    let s = marks_same p.used x.0 (code_of p.class) x.1.0 (l ∙ sym x.1.1) (cc (e, x.1.2)) in
    let w : words_of k vs ≡ p.words = words_of_only p.words k vs (cc e) (cc e) in
    ((p.class, s.1), ap kinds w ∙ cc e))
    (both_or (class_or x.1.0) (cases_eq (kinds (words_of k vs)) k))
words_or _ = inr (λ x. cc (x.1.1))

pub page_or : (root : Bool) (body : List ℕ) → Decided ((p : Page) × (Lawful root p × (body_bytes p ≡ body)))
unfolding body_bytes
page_or root body = like (λ (p, (x, y)). (p, x))
    (λ (p, (l, e)). (p, ((l, e), (l.shaped.ten_marks, sym (words_in-fours (body_words p) (words_fit p l.shaped)) ∙ ap words_in e))))
    (narrow_or (λ p q x y. same_page p q (x.0 ∙ sym y.0) (x.1 ∙ sym y.1)) (words_or (words_in body))
    (λ p. both_or (lawful_or p root) (lists_or (body_bytes p) body)))
