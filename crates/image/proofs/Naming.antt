-- The homes that positions have are noted.
-- Assumes nothing.
use Rattle.std.proofs.Common.{◌≡◌, ℕ, List, length, set, get_or, Bool, true, Some, None, Option, sym, ap, ◌∙◌, subst, inl, inr, IsTrue, arith}
use Rattle.std.proofs.lemmas.Bool.{cases_lt, cases_eq}
use Rattle.std.proofs.lemmas.List.{get_or-set_other, get_or_past, length-set}
use Rattle.std.proofs.lemmas.Grind.{get_or-set_at}

abbrev or_zero : Option ℕ → ℕ
or_zero None = 0
or_zero (Some s) = s

-- each of them is noted, also after the home of one position more is
pub named_by : (hs : List (Option ℕ)) (ns ms : List Bool) (home : ℕ) → ((i s : ℕ) → get_or hs i None ≡ Some s → IsTrue (get_or ns s true))
    → IsTrue (get_or ms home true) → ((s : ℕ) → IsTrue (get_or ns s true) → IsTrue (get_or ms s true))
    → (p i s : ℕ) → get_or (set hs p (Some home)) i None ≡ Some s → IsTrue (get_or ms s true)
named_by hs ns ms home f noted kept p i s e = elim (cases_eq i p) [
  | inl q ↦ elim (cases_lt i (length hs)) [
    | inl l ↦ subst (λ (v : ℕ). IsTrue (get_or ms v true)) (ap or_zero (sym (get_or-set_at hs p i (Some home) None q (omega (arith, q, l))) ∙ e)) noted
    | inr l ↦ kept s (f i s (get_or_past hs i None (omega arith) ∙ sym (get_or_past (set hs p (Some home)) i None (simp (length-set) (omega arith))) ∙ e))
  ]
  | inr n ↦ kept s (f i s (sym (get_or-set_other hs p i (Some home) None n) ∙ e))
]
