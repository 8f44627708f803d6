-- Which of two headers is the image's.
-- Assumes nothing.
use Rattle.std.proofs.Common.{◌≡◌, ℕ, ◌%◌, ◌≤◌, ◌⊎◌, Some, None, Option, MatchOption, sym, refl, ap, ◌∙◌, subst, inl, inr, arith}
use Rattle.std.specs.Prelude.{IfSome, IsNone}
use Rattle.std.proofs.lemmas.Bool.{cases_eq, false≢true}
use Rattle.device.specs.Sector.{Image}
use Rattle.layout.specs.declared.header.Header.{Header}
use Rattle.layout.proofs.Headers.{one_header}
use Rattle.image.specs.Headers.{IsHeaderAt, IsHeaderIn, IsHeaderOf}
use Rattle.image.proofs.Readings.{payload_one}

module _ (n : ℕ) (σ : Image) where
  -- what a header sector was read as
  abbrev pub ReadAs : ℕ → Option Header → Type 0
  ReadAs s o = MatchOption o ((h : Header) → IsHeaderAt n σ s h → ⊥) (IsHeaderAt n σ s)

  pub one_of_two : (h : Header) → IsHeaderIn n σ h → IsHeaderAt n σ 0 h ⊎ IsHeaderAt n σ 1 h
  one_of_two h x = elim (cases_eq (h.epoch % 2) 0) [
    | inl e ↦ inl (subst (λ (s : ℕ). IsHeaderAt n σ s h) e x)
    | inr ne ↦ let e : h.epoch % 2 ≡ 1 = omega arith in inr (subst (λ (s : ℕ). IsHeaderAt n σ s h) e x)
  ]

  pub in_its_sector : (s : ℕ) (h : Header) → IsHeaderAt n σ s h → IsHeaderIn n σ h
  in_its_sector s h x = subst (λ (t : ℕ). IsHeaderAt n σ t h) (sym x.0.1) x

  pub same_header : (s : ℕ) (h g : Header) → IsHeaderAt n σ s h → IsHeaderAt n σ s g → h.epoch ≡ g.epoch
  same_header s h g a b = ap (λ (k : Header). k.epoch) (one_header h g (payload_one _ _ (sym a.1 ∙ b.1)))

  -- a sector that was read as o has no header but that
  same_sector : (s : ℕ) (o : Option Header) (g : Header) (k : ℕ) → ReadAs s o → IsHeaderAt n σ s g → IfSome o (λ x. x.epoch ≤ k) → g.epoch ≤ k
  same_sector s None g k r a h = absurd (r g a)
  same_sector s (Some x) g k r a h = subst (λ (y : Header). y.epoch ≤ k) (one_header x g (payload_one _ _ (sym r.1 ∙ a.1))) h

  found : (s : ℕ) (o : Option Header) (h : Header) → ReadAs s o → o ≡ Some h → IsHeaderIn n σ h
  found s o h r e = in_its_sector s h (subst (λ (p : Option Header). ReadAs s p) e r)

  pub chosen : (a b o : Option Header) → ReadAs 0 a → ReadAs 1 b
      → (IsNone o → IsNone a × IsNone b) → IfSome o (λ h. (a ≡ Some h) ⊎ (b ≡ Some h)) → IfSome o (λ h. IfSome a (λ x. x.epoch ≤ h.epoch) × IfSome b (λ y. y.epoch ≤ h.epoch))
      → MatchOption o ((h : Header) → IsHeaderIn n σ h → ⊥) (IsHeaderOf n σ)
  chosen None None None x y none one newest = λ h k. elim (one_of_two h k) [ inl z ↦ x h z | inr z ↦ y h z ]
  chosen (Some a) b None x y none one newest = absurd (false≢true (sym (none refl).0))
  chosen None (Some b) None x y none one newest = absurd (false≢true (sym (none refl).1))
  chosen a b (Some h) x y none one newest = record {
    valid = elim one [ inl e ↦ found 0 a h x e | inr e ↦ found 1 b h y e ];
    newest = λ g k. elim (one_of_two g k) [ inl z ↦ same_sector 0 a g h.epoch x z newest.0 | inr z ↦ same_sector 1 b g h.epoch y z newest.1 ];
  }
