-- One body has one page.
use Rattle.std.proofs.Common.{◌≡◌, ℕ, zero, suc, ◌^◌, ◌<◌, ◌≤◌, List, [], ◌∷◌}
use Rattle.std.proofs.Common.{length, get_or, drop, map, ap, sym, ◌∙◌, refl, arith}
use Rattle.std.proofs.Math.ListN.{get_or-map}
use Rattle.layout.specs.declared.class.Class.{Class}
use Rattle.layout.specs.declared.class.Class.TheVariants.{Free, One, Two, Three, Five, Ten, Root}
use Rattle.layout.specs.declared.word.Word.TheVariants.{Number}
use Rattle.layout.specs.declared.page.Page.{Page}
use Rattle.layout.specs.Classes.{code_of}
use Rattle.layout.specs.Words.{value_of}
use Rattle.layout.specs.Pages.{Shaped, word_at}
use Rattle.layout.specs.Bodies.{marks, kinds, body_words, body_bytes}
use Rattle.layout.proofs.Bytes.{fours_same}
use Rattle.layout.proofs.Marks.{marks-below, marks_same}
use Rattle.layout.proofs.DataKinds.{kinds-below, words_of_only}

pub code_below : (c : Class) → code_of c < 8
code_below Free = omega arith
code_below One = omega arith
code_below Two = omega arith
code_below Three = omega arith
code_below Five = omega arith
code_below Ten = omega arith
code_below Root = omega arith

abbrev class_of : ℕ → Class
class_of code = get_or (Free ∷ One ∷ Two ∷ Three ∷ Five ∷ Ten ∷ Root ∷ []) code Free

class_of-code : (c : Class) → class_of (code_of c) ≡ c
class_of-code Free = refl
class_of-code One = refl
class_of-code Two = refl
class_of-code Three = refl
class_of-code Five = refl
class_of-code Ten = refl
class_of-code Root = refl

-- the words of a body have 32 bits
pub words_fit : (p : Page) → Shaped p → (k : ℕ) → get_or (body_words p) k 0 < 2 ^ 32
words_fit p h zero =
    let m = marks-below p.used (code_of p.class) 10 (code_below p.class) (omega (arith, h.ten_marks)) in
    omega arith
words_fit p h (suc zero) =
    let m = kinds-below p.words 10 (omega (arith, h.ten_words)) in
    omega arith
words_fit p h (suc (suc j)) = rw (get_or-map value_of p.words j (Number 0)) (h.fit j)

-- so have the data words of a page whose body's words have
pub fit_in_page : (p : Page) → ((k : ℕ) → get_or (body_words p) k 0 < 2 ^ 32) → (j : ℕ) → value_of (word_at p j) < 2 ^ 32
fit_in_page p h j = rw (get_or-map value_of p.words j (Number 0)) at (h (suc (suc j)))

-- the words of a body tell the page
pub same_page : (p q : Page) → length p.used ≡ length q.used → body_words p ≡ body_words q → p ≡ q
same_page p q l e =
    let m : marks p.used (code_of p.class) ≡ marks q.used (code_of q.class) = cc in
    let k : kinds p.words ≡ kinds q.words = cc in
    let v : map value_of p.words ≡ map value_of q.words = cc in
    let u = marks_same p.used q.used _ _ l m in
    let c = sym (class_of-code p.class) ∙ ap class_of (u.1) ∙ class_of-code q.class in
    let w = sym (words_of_only p.words _ _ k v) ∙ words_of_only q.words _ _ refl refl in
    λ i. record { class = c i; used = u.0 i; words = w i }

-- no other page has the same body
pub body_same : (p q : Page) → Shaped p → Shaped q → body_bytes p ≡ body_bytes q → p ≡ q
unfolding body_bytes
body_same p q h k e =
    same_page p q (h.ten_marks ∙ sym k.ten_marks)
    (fours_same (body_words p) (body_words q) (words_fit p h) (words_fit q k) e)

-- a list, and its first two
pub split_two : (ws : List ℕ) → 2 ≤ length ws → get_or ws 0 0 ∷ get_or ws 1 0 ∷ drop 2 ws ≡ ws
split_two [] h = absurd (omega arith)
split_two (v ∷ []) h = absurd (omega arith)
split_two (v ∷ w ∷ ws) h = refl
