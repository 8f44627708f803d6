-- Where nothing was read no position has a home.
-- Assumes nothing.
use Rattle.std.proofs.Common.{◌≡◌, ℕ, inl, inr, replicate, Option, Some, None, sym, ◌∙◌, arith}
use Rattle.std.proofs.lemmas.Bool.{cases_lt}
use Rattle.std.proofs.lemmas.List.{get_or-replicate, get_or_past}
use Rattle.image.proofs.log.LogRead.new.Goals as goal

no_home : {s : ℕ} → ◌≡◌ {A = Option ℕ} None (Some s) → ⊥
no_home e = cc

pub invariant_of-result-clause-names : goal.invariant_of-result-clause-names
invariant_of-result-clause-names c = λ i s e. elim (cases_lt i 64) [
  | inl l ↦ absurd (no_home (sym (get_or-replicate {A = Option ℕ} 64 i None None l) ∙ e))
  | inr l ↦ absurd (no_home (sym (get_or_past (replicate {A = Option ℕ} 64 None) i None (omega arith)) ∙ e))
]
