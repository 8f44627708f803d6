-- What so many calls leave of a fuse.
-- Assumes nothing.
use Rattle.std.proofs.Common.{◌≡◌, ℕ, zero, suc, ◌-◌, ◌<◌, ◌≤◌, sym, refl, ap, ◌∙◌, subst, inl, inr, arith}
use Rattle.std.proofs.lemmas.Bool.{cases_lt}
use Rattle.switch.specs.declared.fuse.Fate.TheVariants.{Passed, Cut}
use Rattle.switch.specs.declared.fuse.Fuse.{Fuse}
use Rattle.switch.specs.declared.fuse.Fuse.TheVariants.{Blown, Lasting, After}
use Rattle.switch.specs.Fates.{fate, fuse_for, AfterCalls, Planned}

after_blown : (n : ℕ) (f : Fuse) → AfterCalls n Blown f → f ≡ Blown
after_blown zero f r = r
after_blown (suc n) f r = after_blown n f (subst (λ (g : Fuse). AfterCalls n g f) r.1 r.2)

after_lasting : (n : ℕ) (f : Fuse) → AfterCalls n Lasting f → f ≡ Lasting
after_lasting zero f r = r
after_lasting (suc n) f r = after_lasting n f (subst (λ (g : Fuse). AfterCalls n g f) r.1 r.2)

after_few : (b n : ℕ) (f : Fuse) → AfterCalls n (After b) f → n ≤ b → f ≡ After (b - n)
after_few b zero f r h = r ∙ ap After (omega arith)
after_few zero (suc n) f r h = absurd (omega arith)
after_few (suc b) (suc n) f r h = after_few b n f (subst (λ (g : Fuse). AfterCalls n g f) r.1 r.2) (omega arith) ∙ ap After (omega arith)

after_more : (b n : ℕ) (f : Fuse) → AfterCalls n (After b) f → b < n → f ≡ Blown
after_more b zero f r h = absurd (omega arith)
after_more zero (suc n) f r h = after_blown n f (subst (λ (g : Fuse). AfterCalls n g f) r.1 r.2)
after_more (suc b) (suc n) f r h = after_more b n f (subst (λ (g : Fuse). AfterCalls n g f) r.1 r.2) (omega arith)

more_to_come : (j : ℕ) → 0 < j → fate (After j) ≡ Passed
more_to_come zero h = absurd (omega arith)
more_to_come (suc j) h = refl

-- a switch turns off within the call that was chosen, and in no other
pub planned : (k n : ℕ) (f : Fuse) → AfterCalls n (fuse_for k) f → Planned k n f
planned zero n f r = subst (Planned zero n) (sym (after_lasting n f r)) (record {
  on = λ _. refl;
  off = λ h _. absurd (omega arith);
  passed = λ _. refl;
  cut = λ e. absurd (omega arith);
  refused = λ h _. absurd (omega arith);
})
planned (suc b) n f r = elim (cases_lt b n) [
  | inl h ↦ subst (Planned (suc b) n) (sym (after_more b n f r h)) (record {
    on = λ p. elim p [ inl e ↦ absurd (omega arith) | inr e ↦ absurd (omega arith) ];
    off = λ _ _. refl;
    passed = λ p. elim p [ inl e ↦ absurd (omega arith) | inr e ↦ absurd (omega arith) ];
    cut = λ e. absurd (omega arith);
    refused = λ _ _. refl;
  })
  | inr h ↦ subst (Planned (suc b) n) (sym (after_few b n f r h)) (record {
    on = λ _. refl;
    off = λ _ e. absurd (omega arith);
    passed = λ p. elim p [ inl e ↦ absurd (omega arith) | inr e ↦ more_to_come (b - n) (omega arith) ];
    cut = λ e. let z : b - n ≡ 0 = omega arith in subst (λ (j : ℕ). fate (After j) ≡ Cut) (sym z) refl;
    refused = λ _ e. absurd (omega arith);
  })
]
