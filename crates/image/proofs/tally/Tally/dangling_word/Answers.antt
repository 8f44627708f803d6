-- The words are asked one after another.
-- Assumes nothing.
use Rattle.std.proofs.Common.{ℕ, ◌≡◌, inl, inr, subst, arith}
use Rattle.std.proofs.lemmas.Bool.{cases_lt, both_ways}
use Rattle.image.specs.Heaps.{DanglesIn}
use Rattle.image.proofs.tally.Tally.dangling_word.Goals as goal

pub returns-then-dangles-clause-first : goal.returns-then-dangles-clause-first
returns-then-dangles-clause-first c = λ H y.
    let d = (c.dangles.ensures H y).0 c.if-dangles.true in
    ((d.0, (omega arith, d.1), d.2), λ k l. c.loop-word.invariant H y k l)

pub loop-word-preserved : goal.loop-word-preserved
loop-word-preserved c = λ H y k l d. elim (cases_lt k c.loop-word.word) [
  | inl m ↦ c.loop-word.invariant H y k m d
  | inr m ↦
      let e : k ≡ c.loop-word.word = omega arith in
      let f = subst (λ (j : ℕ). DanglesIn H c.args.page.now j) e d in
      both_ways _ c.if-dangles.false ((c.dangles.ensures H y).1 (f.0, f.1.1, f.2))
]

pub returns-clause-first : goal.returns-clause-first
returns-clause-first c = λ H y j d. c.loop-word.invariant H y j (let l = d.1.0 in omega arith) d
