-- The found images after a call, by the images that could be found before it.
-- Assumes nothing.
use Rattle.std.proofs.Common.{◌≡◌, ℕ, cond, eqb, List, sym, refl, subst, inl, inr}
use Rattle.std.proofs.lemmas.Bool.{cases_eq, eq-eqb, ne_eqb}
use Rattle.device.specs.Sector.{Content, Image, Possible, Found}
use Rattle.device.specs.Rules.{Meaning, NoneAdded, Unchanged, Gains, Settled}
use Rattle.device.specs.Leaves.{SameFound, OneFound, MaybeWritten}

-- where no possible content is added, nothing else can be found
pub found_before : {p q : Possible} {σ : Image} → NoneAdded p q → Found q σ → Found p σ
found_before {p} {q} {σ} n f s = n s (σ s) (f s)

-- a read that does not answer 1, and a call refused with 2 or 3, leave the found images as they are
pub found_unchanged : (m m' : Meaning) → Unchanged m m' → SameFound m.possible m'.possible
found_unchanged m m' u σ = (λ f s. u.lost s (σ s) (f s), λ f s. u.added s (σ s) (f s))

-- a flush leaves one image to be found, the current one
pub found_flushed : (f : Image) (p : Possible) → Settled f p → OneFound p f
found_flushed f p e σ h s = e s (σ s) (h s)

-- σ with content c in sector s
with_content : ℕ → Content → Image → Image
with_content s c σ t = cond (eqb t s) c (σ t)

with_here : (s : ℕ) (c : Content) (σ : Image) → with_content s c σ s ≡ c
unfolding with_content
with_here s c σ = rw (eq-eqb s s refl)

with_there : (s : ℕ) (c : Content) (σ : Image) (t : ℕ) → (t ≡ s → ⊥) → σ t ≡ with_content s c σ t
unfolding with_content
with_there s c σ t ne = rw (ne_eqb t s ne)

-- a content that p allows in s, and elsewhere what q allows
join : (p q : Possible) (s : ℕ) (b : List ℕ) (σ : Image) → Gains s b p q → Found q σ → p s (σ s) → Found p σ
join p q s b σ g f h t = elim (cases_eq t s) [ inl e ↦ subst (λ (z : ℕ). p z (σ z)) (sym e) h | inr ne ↦ g.there t (σ t) ne (f t) ]

-- a write, accepted or cut, adds only images in which it happened or tore its sector
pub found_written : (p q : Possible) (s : ℕ) (b : List ℕ) (σ : Image) → ((t : ℕ) → (c : Content) × p t c) → Gains s b p q → Found q σ → MaybeWritten s b (Found p) σ
found_written p q s b σ some g f = elim (g.here (σ s) (f s)) [
  | inl old ↦ (σ, join p q s b σ g f old, λ t ne. refl, inl refl)
  | inr new ↦ (
    with_content s (some s).0 σ,
    (λ t. elim (cases_eq t s) [
      | inl e ↦ subst (λ (z : ℕ). p z (with_content s (some s).0 σ z)) (sym e) (subst (p s) (sym (with_here s (some s).0 σ)) (some s).1)
      | inr ne ↦ subst (p t) (with_there s (some s).0 σ t ne) (g.there t (σ t) ne (f t))
    ]),
    (λ t ne. with_there s (some s).0 σ t ne),
    inr new,
  )
]

-- an image that needs no write is one in which it did not happen
pub unwritten : (s : ℕ) (b : List ℕ) (F : Image → Type 0) (σ : Image) → F σ → MaybeWritten s b F σ
unwritten s b F σ h = (σ, h, λ t ne. refl, inl refl)

pub maybe_map : (s : ℕ) (b : List ℕ) (F G : Image → Type 0) (σ : Image) → ((τ : Image) → F τ → G τ) → MaybeWritten s b F σ → MaybeWritten s b G σ
maybe_map s b F G σ h w = (w.0, h w.0 w.1, w.2, w.3)
