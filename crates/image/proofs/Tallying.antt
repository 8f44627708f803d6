-- A tally that takes up page after page, and which handles have objects by it.
-- Assumes nothing.
use Rattle.std.proofs.Common.{◌≡◌, ℕ, ◌+◌, ◌-◌, ◌/◌, ◌%◌, ◌<◌, ◌≤◌, ◌⊎◌, Bool, cond, true, false, List, [], ◌∷◌, ◌++◌, length, set, replicate, sym, refl, ap, ◌∙◌, subst, inl, inr, arith}
use Rattle.std.specs.Prelude.{IsTrue, ◌↔◌, slice_index}
use Rattle.std.specs.Int.{from_bool}
use Rattle.std.proofs.lemmas.List.{length-replicate, get_or-replicate, get_or_past, get_or_append_left, get_or_push, get_or-set_same, get_or-set_other, length_push}
use Rattle.std.proofs.lemmas.List.Sums.{sum_by_push}
use Rattle.std.proofs.lemmas.Bool.{cases_lt}
use Rattle.std.proofs.Math.ListN.{length-set}
use Rattle.layout.specs.declared.page.Page.{Page}
use Rattle.layout.specs.declared.handle.Handle.{Handle}
use Rattle.layout.specs.Bodies.{marks}
use Rattle.layout.specs.Slots.{HasBit}
use Rattle.layout.proofs.Bits.{used_bit, bit_used, no_bit}
use Rattle.image.specs.declared.tally.Tally.{Tally}
use Rattle.layout.specs.declared.geometry.TheConstants.{MOST_SECTORS}
use Rattle.image.specs.Heaps.{Heap, HasPage, page_of, HasObject, free_page, is_free, objects_of}
use Rattle.image.specs.Tallies.{IsTallyOf, IsTallyOfHeap}

zero_at : (n s : ℕ) → slice_index (replicate n 0) s ≡ 0
zero_at n s = elim (cases_lt s n) [
  | inl l ↦ get_or-replicate n s 0 0 l
  | inr l ↦ get_or_past (replicate n 0) s 0 (omega (arith, length-replicate {A = ℕ} n 0))
]

pub empty_tally : (root : ℕ) (t : Tally) → t.marks ≡ replicate MOST_SECTORS 0 → t.free_pages ≡ 0 → t.objects ≡ 0 → IsTallyOf root [] t
empty_tally root t e f o = record {
  long = ap length e ∙ length-replicate {A = ℕ} MOST_SECTORS 0;
  here = λ i l. absurd (omega arith);
  nowhere = λ s h. ap (λ (xs : List ℕ). slice_index xs s) e ∙ zero_at MOST_SECTORS s;
  free_pages = f;
  objects = o;
  few = omega (arith, o);
}

pub byte_of : (b : Bool) → from_bool b ≡ cond b 1 0
byte_of true = refl
byte_of false = refl

pub one_at_most : (b : Bool) → cond b 1 0 ≤ 1
one_at_most true = omega arith
one_at_most false = omega arith

-- one page more
pub more_tally : (root : ℕ) (ps : List Page) (t u : Tally) (p : Page) (s : ℕ) → s ≡ root + length ps → s < MOST_SECTORS → IsTallyOf root ps t
    → u.marks ≡ set t.marks s (marks p.used 0) → u.free_pages ≡ t.free_pages + cond (is_free p) 1 0 → u.objects ≡ t.objects + objects_of p → objects_of p ≤ 10
    → IsTallyOf root (ps ++ p ∷ []) u
more_tally root ps t u p s at l y em ef eo few = record {
  long = ap length em ∙ length-set t.marks s (marks p.used 0) ∙ y.long;
  here = λ i m. elim (cases_lt i (length ps)) [
    | inl k ↦ at_mark (root + i) em ∙ get_or-set_other t.marks s (root + i) (marks p.used 0) 0 (λ e. omega arith) ∙ y.here i k
        ∙ ap (λ (q : Page). marks q.used 0) (sym (get_or_append_left ps (p ∷ []) free_page i k))
    | inr k ↦
        let z : length ps ≡ i = omega (arith, length_push ps p) in
        let w : s ≡ root + i = omega arith in
        at_mark (root + i) em ∙ ap (λ (j : ℕ). slice_index (set t.marks s (marks p.used 0)) j) (sym w) ∙ get_or-set_same t.marks s (marks p.used 0) 0 (omega (arith, y.long))
        ∙ ap (λ (q : Page). marks q.used 0) (sym (get_or_push ps p free_page i z))
  ];
  nowhere = λ r h. at_mark r em ∙ get_or-set_other t.marks s r (marks p.used 0) 0 (λ e. omega (arith, length_push ps p)) ∙ y.nowhere r (past r h);
  free_pages = ef ∙ ap (λ (k : ℕ). k + cond (is_free p) 1 0) y.free_pages ∙ sym (sum_by_push (λ (q : Page). cond (is_free q) 1 0) ps p);
  objects = eo ∙ ap (λ (k : ℕ). k + objects_of p) y.objects ∙ sym (sum_by_push objects_of ps p);
  few = omega (arith, y.few, length_push ps p);
}
  where
    at_mark : (j : ℕ) → u.marks ≡ set t.marks s (marks p.used 0) → slice_index u.marks j ≡ slice_index (set t.marks s (marks p.used 0)) j
    at_mark j e = ap (λ (xs : List ℕ). slice_index xs j) e

    past : (r : ℕ) → (r < root) ⊎ (root + length (ps ++ p ∷ []) ≤ r) → (r < root) ⊎ (root + length ps ≤ r)
    past r (inl k) = inl k
    past r (inr k) = inr (omega (arith, length_push ps p))

-- a sector is a page's, or its mark is zero
page_or_zero : (H : Heap) (t : Tally) (s : ℕ) → IsTallyOfHeap H t → (HasPage H s × (slice_index t.marks s ≡ marks (page_of H s).used 0)) ⊎ ((HasPage H s → ⊥) × (slice_index t.marks s ≡ 0))
page_or_zero H t s y = elim (cases_lt s H.root) [
  | inl l ↦ inr (λ p. omega arith, y.of.nowhere s (inl l))
  | inr l ↦ elim (cases_lt s (H.root + length H.pages)) [
    | inl m ↦ let i = s - H.root in let z : H.root + i ≡ s = omega arith in
        inl ((l, m), subst (λ (j : ℕ). slice_index t.marks j ≡ marks (page_of H s).used 0) z (y.of.here i (omega arith)))
    | inr m ↦ inr (λ p. omega arith, y.of.nowhere s (inr m))
  ]
]

-- the handle has an object exactly if its bit is set
pub has_by_mark : (H : Heap) (t : Tally) (h : Handle) (m : ℕ) (a : Bool) → IsTallyOfHeap H t → m ≡ slice_index t.marks (h.0 / 16) → IsTrue a ↔ HasBit m (h.0 % 16)
    → IsTrue a ↔ HasObject H h
has_by_mark H t h m a y e b = elim (page_or_zero H t (h.0 / 16) y) [
  | inl (p, q) ↦ (
    λ x. (p, used_bit _ _ (subst (λ (k : ℕ). HasBit k (h.0 % 16)) (e ∙ q) (b.0 x))),
    λ x. b.1 (subst (λ (k : ℕ). HasBit k (h.0 % 16)) (sym (e ∙ q)) (bit_used _ _ x.1)),
  )
  | inr (p, q) ↦ (λ x. absurd (no_bit (h.0 % 16) (subst (λ (k : ℕ). HasBit k (h.0 % 16)) (e ∙ q) (b.0 x))), λ x. absurd (p x.0))
]
