-- What the rules of one call say together, for every device.
-- Assumes nothing.
use Rattle.std.proofs.Common.{◌≡◌, ℕ, ◌<◌, true, ◌⊎◌, List, Err, sym, ap, ◌∙◌, subst, inl, inr, arith}
use Rattle.std.proofs.lemmas.Bool.{cases_lt}
use Rattle.device.specs.declared.fault.Fault.TheVariants.{Off, NoSector, Torn}
use Rattle.device.specs.declared.fault.Fault.{Fault}
use Rattle.device.specs.Faults.{Answer, returned, number}
use Rattle.device.specs.Sector.{Content, Image, Found}
use Rattle.device.specs.Rules.{Meaning, NoneAdded, Unchanged, Gains, WriteCall, FlushCall, Numbered}
use Rattle.device.specs.Leaves.{MaybeWritten}
use Rattle.device.proofs.Found.{found_written}

-- what is accepted was below the count
pub accepted_below : (s : ℕ) (r : Answer) (m : Meaning) → Numbered s r m → returned r ≡ 0 → s < m.count
accepted_below s r m n e = elim (cases_lt s m.count) [
  | inl h ↦ h
  | inr h ↦ elim (n.past h) [ inl x ↦ absurd (omega arith) | inr x ↦ absurd (omega arith) ]
]

-- two calls that change nothing
pub unchanged_then : (m m₁ m₂ : Meaning) → Unchanged m m₁ → Unchanged m₁ m₂ → Unchanged m m₂
unchanged_then m m₁ m₂ u v = record {
  current = λ s. v.current s ∙ u.current s;
  added = λ s c h. u.added s c (v.added s c h);
  lost = λ s c h. v.lost s c (u.lost s c h);
}

pub unchanged_gains : (s : ℕ) (b : List ℕ) (m m' : Meaning) → Unchanged m m' → Gains s b m.possible m'.possible
unchanged_gains s b m m' u = record { here = λ c h. inl (u.added s c h); there = λ t c _ h. u.added t c h }

-- a write answers 0, 1 or 2
pub write_answers : (s : ℕ) (b : List ℕ) (r : Answer) (m m' : Meaning) → WriteCall s b r m m' → (returned r ≡ 0) ⊎ ((returned r ≡ 1) ⊎ (returned r ≡ 2))
write_answers s b r m m' w = elim (cases_lt s m.count) [
  | inl h ↦ elim (w.writes.answers h) [ inl x ↦ inl x | inr x ↦ inr (inl x) ]
  | inr h ↦ elim (w.numbered.past h) [ inl x ↦ inr (inr x) | inr x ↦ inr (inl x) ]
]

-- whatever a write answers, it gains at most its own bytes and torn, in its own sector
pub write_gains : (s : ℕ) (b : List ℕ) (r : Answer) (m m' : Meaning) → WriteCall s b r m m' → Gains s b m.possible m'.possible
write_gains s b r m m' w = elim (write_answers s b r m m' w) [
  | inl x ↦ w.writes.gains x
  | inr o ↦ elim o [ inl x ↦ w.cut x | inr x ↦ unchanged_gains s b m m' (w.writes.refused x) ]
]

-- a flush adds nothing that can be found, whatever it answers
pub flush_adds_none : (r : Answer) (m m' : Meaning) → FlushCall r m m' → (m.on ≡ true → Found m.possible m.current) → m.on ≡ true → NoneAdded m.possible m'.possible
flush_adds_none r m m' w kept on s c h = elim w.flushes.answers [
  | inl x ↦ subst (m.possible s) (sym (w.flushes.settled x s c h ∙ w.flushes.current x s)) (kept on s)
  | inr x ↦ w.cut x s c h
]

-- every possible content of a write's outcome, as images
pub write_leaves : (s : ℕ) (b : List ℕ) (r : Answer) (m m' : Meaning) (σ : Image) → WriteCall s b r m m' → ((t : ℕ) → (c : Content) × m.possible t c) → Found m'.possible σ → MaybeWritten s b (Found m.possible) σ
write_leaves s b r m m' σ w some f = found_written m.possible m'.possible s b σ some (write_gains s b r m m' w) f

-- a refused call does not return 0
pub err_returned : (r : Answer) (y : Fault) → r ≡ Err y → returned r ≡ 0 → ⊥
err_returned r y e z = not_zero y (sym (ap returned e) ∙ z)
  where
    not_zero : (y : Fault) → number y ≡ 0 → ⊥
    not_zero Off h = omega arith
    not_zero NoSector h = omega arith
    not_zero Torn h = omega arith
