-- 16 marks and 16 numbers for each sector are 16,384 at most, of which there are as many.
-- Assumes nothing.
use Rattle.std.proofs.Common.{◌≡◌, ◌≤◌, ℕ, List, length, replicate, Err, inl, inr, ap, ◌∙◌, subst, arith}
use Rattle.std.proofs.lemmas.List.{length-replicate}
use Rattle.media.specs.Cards.{memory}
use Rattle.media.specs.Rows.{rows_mean}
use Rattle.audit.specs.Checks.{wanted, Checks}
use Rattle.inspect.proofs.card.check_card.Goals as goal

pub unreachable-requires-in-Err-ShortMemory : goal.unreachable-requires-in-Err-ShortMemory
unreachable-requires-in-Err-ShortMemory c =
    let zeros : List ℕ = replicate 16384 0 in
    let places : length zeros ≡ 16384 = length-replicate {A = ℕ} 16384 0 in
    let m = rows_mean (memory c.args.card.now) in
    let few : wanted m.count ≤ 16384 = omega (arith, c.requires) in
    let short = subst (Checks m (rows_mean (memory c.check.new.device)) zeros c.check.new.marks zeros c.check.new.numbers)
    (c.in-Err-ShortMemory.is ∙ ap Err c.in-Err-ShortMemory.field-0-is) c.check.ensures.checked in
    elim short.0 [ inl h ↦ omega arith | inr h ↦ omega arith ]
