-- What is read for a turn of the walk: the root page, and the page of an object with its words.
-- Assumes nothing.
use Rattle.std.proofs.Common.{◌≡◌, ℕ, ◌*◌, ◌/◌, ◌%◌, ◌<◌, List, take, drop, sym, ap, ◌∙◌, subst}
use Rattle.device.specs.Sector.{Image}
use Rattle.layout.specs.declared.word.Word.{Word}
use Rattle.layout.specs.declared.page.Page.{Page}
use Rattle.layout.specs.Classes.{size_of, slots_of}
use Rattle.image.specs.Heaps.{Heap, HasPage, page_of, Reaches}
use Rattle.image.specs.Images.{Holds}
use Rattle.audit.specs.Visits.{handle}
use Rattle.audit.proofs.Objects.{object_words, root_page, reached_page, reached_slot}

module _ (n : ℕ) (σ : Image) (H : Heap) (a : Holds n σ H) (s : ℕ) where
  pub root_there : s ≡ H.root → HasPage H s
  root_there e = subst (HasPage H) (sym e) (root_page n σ H a)

  pub root_read : (p : Page) → s ≡ H.root → p ≡ page_of H s → p ≡ page_of H H.root
  root_read p e f = f ∙ ap (page_of H) e

  module _ (g x : ℕ) (r : Reaches H (handle g)) (same : x ≡ g) (at : s ≡ x / 16) where
    pub object_there : HasPage H s
    object_there = subst (HasPage H) (sym (at ∙ ap (λ (k : ℕ). k / 16) same)) (reached_page n σ H a g r)

    module _ (p : Page) (e : p ≡ page_of H s) (i : ℕ) (slot : i ≡ x % 16) where
      pub object_slot : i < slots_of p.class
      object_slot = let l = reached_slot n σ H a g r in
          subst (λ (k : ℕ). k < slots_of p.class) (sym (slot ∙ ap (λ (k : ℕ). k % 16) same))
          (subst (λ (q : Page). g % 16 < slots_of q.class) (sym (e ∙ ap (page_of H) (at ∙ ap (λ (k : ℕ). k / 16) same))) l)

      pub object_read : (ws : List Word) → ws ≡ take (size_of p.class) (drop (i * size_of p.class) p.words) → ws ≡ object_words H g
      object_read ws w = cc
