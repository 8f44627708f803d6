-- What is reached in a heap that an image holds, and what the words of an object refer to.
-- Assumes nothing.
use Rattle.std.proofs.Common.{◌≡◌, ℕ, ◌+◌, ◌-◌, ◌*◌, ◌/◌, ◌%◌, ◌<◌, ◌≤◌, ◌==◌, false, List, length, take, drop, ◌∙◌, sym, subst, inl, inr, arith}
use Rattle.std.specs.Prelude.{slice_index_or}
use Rattle.std.proofs.lemmas.Bool.{cases_lt, cases_Bool, both_ways}
use Rattle.std.proofs.lemmas.List.{length-drop, length-take-le, get_or-take, get_or-drop}
use Rattle.device.specs.Sector.{Image}
use Rattle.layout.specs.declared.class.Class.{Class}
use Rattle.layout.specs.declared.class.Class.TheVariants.{Free, One, Two, Three, Five, Ten, Root}
use Rattle.layout.specs.declared.handle.Handle.{Handle}
use Rattle.layout.specs.declared.word.Word.{Word}
use Rattle.layout.specs.declared.word.Word.TheVariants.{Number}
use Rattle.layout.specs.declared.page.Page.{Page}
use Rattle.layout.specs.Classes.{size_of, slots_of, Takes}
use Rattle.layout.specs.Geometries.{root_of}
use Rattle.layout.specs.Pages.{Lawful}
use Rattle.image.specs.Heaps.{Heap, HasPage, page_of, HasObject, RefersTo, Reaches}
use Rattle.image.specs.Heaps.Reaches.{root, object}
use Rattle.image.specs.Images.{Holds}
use Rattle.image.proofs.Single.{page_inside}
use Rattle.audit.specs.Visits.{handle, Refer}

-- the slots of a class are within a page's ten words
slot_inside : (c : Class) (i : ℕ) → i < slots_of c → i * size_of c + size_of c ≤ 10
slot_inside Free i l = absurd (omega arith)
slot_inside One i l = omega arith
slot_inside Two i l = omega arith
slot_inside Three i l = omega arith
slot_inside Five i l = omega arith
slot_inside Ten i l = omega arith
slot_inside Root i l = absurd (omega arith)

-- the words of the object at a handle, if there is one
abbrev pub object_words : Heap → ℕ → List Word
object_words H g = let p = page_of H (g / 16) in take (size_of p.class) (drop (g % 16 * size_of p.class) p.words)

-- an object is there, or there is none
there : (H : Heap) (h : Handle) → ((HasObject H h → ⊥) → ⊥) → HasObject H h
there H h f = elim (cases_lt (h.0 / 16) H.root) [
  | inl l ↦ absurd (f (λ x. omega (arith, x.0.0)))
  | inr l ↦ elim (cases_lt (h.0 / 16) (H.root + length H.pages)) [
    | inl m ↦ elim (cases_Bool (slice_index_or (page_of H (h.0 / 16)).used (h.0 % 16) false)) [
      | inl u ↦ ((l, m), u)
      | inr u ↦ absurd (f (λ x. both_ways _ u x.1))
    ]
    | inr m ↦ absurd (f (λ x. omega (arith, x.0.1)))
  ]
]

module _ (n : ℕ) (σ : Image) (H : Heap) (a : Holds n σ H) where
  pub root_page : HasPage H H.root
  root_page = let z : a.shows.header.geometry.sectors ≡ n = a.shows.read.header.valid.0.0 in
      let m = a.shows.header.geometry.room in (omega arith, omega (arith, a.shows.root, a.shows.sectors))

  lawful : (s : ℕ) → HasPage H s → Lawful (s == root_of a.shows.header.geometry) (page_of H s)
  lawful s h = (a.shows.pages s (page_inside n σ H a.shows s h)).0

  pub reached_object : (h : Handle) → Reaches H h → HasObject H h
  reached_object _ (root j h r) = there H h (λ x. a.none_dangles H.root j root_page (h, r, x))
  reached_object _ (object g j h r t e) = there H h (λ x. a.none_dangles (g.0 / 16) j (reached_object g r).0 (h, e, x))

  pub reached_below : (k : ℕ) → Reaches H (handle k) → k < 16 * n
  reached_below k r = let p = (reached_object (handle k) r).0.1 in omega (arith, a.shows.sectors)

  pub reached_page : (k : ℕ) → Reaches H (handle k) → HasPage H (k / 16)
  reached_page k r = (reached_object (handle k) r).0

  pub reached_slot : (k : ℕ) → Reaches H (handle k) → k % 16 < slots_of (page_of H (k / 16)).class
  reached_slot k r = let o = reached_object (handle k) r in (lawful (k / 16) o.0).slots (k % 16) o.1

  -- the roots are what the root page's words refer to
  pub root_reaches : (k : ℕ) → Refer (page_of H H.root).words k → Reaches H (handle k)
  root_reaches k (j, l, e) = let t = (lawful H.root root_page).shaped.ten_words in root j (handle k) (omega arith, e)

  pub root_refers : (k j : ℕ) → RefersTo (page_of H H.root) j (handle k) → Refer (page_of H H.root).words k
  root_refers k j r = let t = (lawful H.root root_page).shaped.ten_words in (j, omega (arith, r.0), r.1)

  module _ (g : ℕ) (r : Reaches H (handle g)) where
    abbrev page : Page
    page = page_of H (g / 16)

    long : length (object_words H g) ≡ size_of page.class
    long = let t = (lawful (g / 16) (reached_page g r)).shaped.ten_words in
        let s = slot_inside page.class (g % 16) (reached_slot g r) in
        length-take-le (size_of page.class) _ (omega (arith, length-drop (g % 16 * size_of page.class) page.words))

    at : (i : ℕ) → i < size_of page.class
        → slice_index_or (object_words H g) i (Number 0) ≡ slice_index_or page.words (g % 16 * size_of page.class + i) (Number 0)
    at i l = get_or-take (size_of page.class) _ i (Number 0) l ∙ get_or-drop (g % 16 * size_of page.class) page.words i (Number 0)

    pub object_reaches : (k : ℕ) → Refer (object_words H g) k → Reaches H (handle k)
    object_reaches k (i, l, e) = let s = slot_inside page.class (g % 16) (reached_slot g r) in
        object (handle g) (g % 16 * size_of page.class + i) (handle k) r
        (reached_slot g r, omega arith, omega (arith, long)) (omega (arith, long), sym (at i (omega (arith, long))) ∙ e)

    pub object_refers : (k j : ℕ) → Takes page.class (g % 16) j → RefersTo page j (handle k) → Refer (object_words H g) k
    object_refers k j t e = let i = j - g % 16 * size_of page.class in
        let z : g % 16 * size_of page.class + i ≡ j = omega (arith, t.1) in
        (i, omega (arith, long, t.2), rw z at (at i (omega (arith, t.2))) ∙ e.1)

-- what is visited has a mark
module _ (n : ℕ) (σ : Image) (H : Heap) (a : Holds n σ H) (m : ℕ) (wide : m ≡ 16 * n) where
  pub root_marks : (p : Page) → p ≡ page_of H H.root → (k : ℕ) → Refer p.words k → k < m
  root_marks p e k r = omega (arith, reached_below n σ H a k (root_reaches n σ H a k (subst (λ (q : Page). Refer q.words k) e r)))

  pub object_marks : (g : ℕ) (ws : List Word) → Reaches H (handle g) → ws ≡ object_words H g → (k : ℕ) → Refer ws k → k < m
  object_marks g ws r e k f = omega (
    arith,
    reached_below n σ H a k
        (object_reaches n σ H a g r k (subst (λ (xs : List Word). Refer xs k) e f)),
  )
