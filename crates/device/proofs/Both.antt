-- Two writes and a flush, by the call at which they end.
-- Assumes nothing.
use Rattle.std.proofs.Common.{◌≡◌, ℕ, ◌<◌, ◌⊎◌, true, not, eqb, List, sym, ◌∙◌, subst, inl, inr, arith}
use Rattle.std.proofs.lemmas.Bool.{cases_Bool, cases_lt, both_ways}
use Rattle.device.specs.Faults.{Answer, returned}
use Rattle.device.specs.Sector.{Content, Image, Found}
use Rattle.device.specs.Rules.{Meaning, WriteCall, FlushCall, StaysOff}
use Rattle.device.specs.Leaves.{MaybeWritten, WritesBoth}
use Rattle.device.proofs.Found.{found_before, found_unchanged, found_flushed, unwritten, maybe_map}
use Rattle.device.proofs.Calls.{accepted_below, write_leaves, flush_adds_none}

-- an accepted call was made on a device that was on, and is
accepted_on : (r : Answer) (m m' : Meaning) → StaysOff r m m' → returned r ≡ 0 → m.on ≡ true
accepted_on r m m' w e = elim (cases_Bool m.on) [ inl h ↦ h | inr h ↦ let x = w.answers h in absurd (omega arith) ]

still_on : (r : Answer) (m' : Meaning) → m'.on ≡ not (eqb (returned r) 1) → returned r ≡ 0 → m'.on ≡ true
still_on r m' p e = p ∙ rw e

-- a write that is not accepted answers 2 or 1
not_accepted : (s : ℕ) (a : List ℕ) (r : Answer) (m m' : Meaning) → WriteCall s a r m m' → (returned r ≡ 0 → ⊥) → (returned r ≡ 2) ⊎ (returned r ≡ 1)
not_accepted s a r m m' w ne = elim (cases_lt s m.count) [
  | inl h ↦ elim (w.writes.answers h) [ inl x ↦ absurd (ne x) | inr x ↦ inr x ]
  | inr h ↦ w.numbered.past h
]

module _ (s : ℕ) (a : List ℕ) (t : ℕ) (b : List ℕ) (r₁ : Answer) (m m₁ : Meaning) (w₁ : WriteCall s a r₁ m m₁)
    (some : (t : ℕ) → (c : Content) × m.possible t c) where
  -- the first write is refused or cut
  pub ends_first : (r : Answer) → r₁ ≡ r → (returned r₁ ≡ 0 → ⊥) → WritesBoth s a t b r m m₁
  ends_first r e ne = subst (λ (x : Answer). WritesBoth s a t b x m m₁) e (record {
    count = w₁.count;
    power = w₁.power;
    off = w₁.off;
    past = λ _. not_accepted s a r₁ m m₁ w₁ ne;
    refused = λ x. elim (cases_lt s m.count) [ inl h ↦ absurd (w₁.numbered.below h x) | inr h ↦ inl (h, w₁.writes.refused x, found_unchanged m m₁ (w₁.writes.refused x)) ];
    below = λ h _. w₁.writes.answers h;
    accepted = λ x. absurd (ne x);
    one = λ x. absurd (ne x);
    leaves = λ σ f. unwritten t b (MaybeWritten s a (Found m.possible)) σ (write_leaves s a r₁ m m₁ σ w₁ some f);
  })

  module _ (ok₁ : returned r₁ ≡ 0) (some₁ : (t : ℕ) → (c : Content) × m₁.possible t c) (r₂ : Answer) (m₂ : Meaning) (w₂ : WriteCall t b r₂ m₁ m₂) where
    below_too : (k : ℕ) → k < m.count → k < m₁.count
    below_too k h = subst (λ (n : ℕ). k < n) (sym w₁.count) h

    on : m.on ≡ true
    on = accepted_on r₁ m m₁ w₁.off ok₁

    two_leave : (σ : Image) → Found m₂.possible σ → MaybeWritten t b (MaybeWritten s a (Found m.possible)) σ
    two_leave σ f = maybe_map t b (Found m₁.possible) (MaybeWritten s a (Found m.possible)) σ
        (λ τ h. write_leaves s a r₁ m m₁ τ w₁ some h) (write_leaves t b r₂ m₁ m₂ σ w₂ some₁ f)

    was_on : (r : Answer) (m' : Meaning) → StaysOff r m m'
    was_on r m' = record { stays = λ x. absurd (both_ways m.on x on); answers = λ x. absurd (both_ways m.on x on); added = λ x. absurd (both_ways m.on x on) }

    second_below : returned r₂ ≡ 0 → t < m.count
    second_below ok₂ = subst (λ (n : ℕ). t < n) w₁.count (accepted_below t r₂ m₁ w₂.numbered ok₂)

    -- the second write is refused or cut
    pub ends_second : (r : Answer) → r₂ ≡ r → (returned r₂ ≡ 0 → ⊥) → WritesBoth s a t b r m m₂
    ends_second r e ne = subst (λ (x : Answer). WritesBoth s a t b x m m₂) e (record {
      count = w₂.count ∙ w₁.count;
      power = w₂.power;
      off = was_on r₂ m₂;
      past = λ _. not_accepted t b r₂ m₁ m₂ w₂ ne;
      refused = λ x. elim (cases_lt t m.count) [
        | inl h ↦ absurd (w₂.numbered.below (below_too t h) x)
        | inr h ↦ inr (accepted_below s r₁ m w₁.numbered ok₁, h, record { here = (w₂.writes.refused x).current s ∙ (w₁.writes.puts ok₁).here; there = λ k ne. (w₂.writes.refused x).current k ∙ (w₁.writes.puts ok₁).there k ne })
      ];
      below = λ _ h. w₂.writes.answers (below_too t h);
      accepted = λ x. absurd (ne x);
      one = λ x. absurd (ne x);
      leaves = two_leave;
    })

    -- the flush is reached
    pub ends_flush : (r : Answer) (m₃ : Meaning) → returned r₂ ≡ 0 → (m₂.on ≡ true → Found m₂.possible m₂.current) → FlushCall r m₂ m₃ → WritesBoth s a t b r m m₃
    ends_flush r m₃ ok₂ kept w₃ = record {
      count = w₃.count ∙ w₂.count ∙ w₁.count;
      power = w₃.power;
      off = was_on r m₃;
      past = λ h. elim w₃.flushes.answers [ inl x ↦ absurd (elim h [ inl p ↦ let q = accepted_below s r₁ m w₁.numbered ok₁ in omega arith | inr p ↦ let q = second_below ok₂ in omega arith ]) | inr x ↦ inr x ];
      refused = λ x. elim w₃.flushes.answers [ inl y ↦ absurd (omega arith) | inr y ↦ absurd (omega arith) ];
      below = λ _ _. w₃.flushes.answers;
      accepted = λ x. (
        accepted_below s r₁ m w₁.numbered ok₁,
        second_below ok₂,
        (
          m₁.current,
          w₁.writes.puts ok₁,
          record { here = w₃.flushes.current x t ∙ (w₂.writes.puts ok₂).here; there = λ k ne. w₃.flushes.current x k ∙ (w₂.writes.puts ok₂).there k ne },
        ),
        w₃.flushes.settled x,
      );
      one = λ x. found_flushed m₃.current m₃.possible (w₃.flushes.settled x);
      leaves = λ σ f. two_leave σ (found_before (flush_adds_none r m₂ m₃ w₃ kept (still_on r₂ m₂ w₂.power ok₂)) f);
    }
