-- The bit of the handle's slot tells.
-- Assumes nothing.
use Rattle.std.proofs.Common.{ℕ, ap, ◌∙◌, subst}
use Rattle.std.specs.Prelude.{IsTrue, ◌↔◌, slice_index}
use Rattle.layout.specs.Slots.{HasBit}
use Rattle.image.proofs.Tallying.{has_by_mark}
use Rattle.image.proofs.tally.Tally.has.Goals as goal

pub returns-in-Some : goal.returns-in-Some
returns-in-Some c = λ H y.
    let t = c.args.self.now in
    let m = c.in-Some.marks.now in
    has_by_mark H t c.args.handle m c.is_marked.result y
    (c.in-Some.ensures.lookup.3.1 0 ∙ ap (λ (j : ℕ). slice_index t.marks j) c.sector.ensures)
    (subst (λ (j : ℕ). IsTrue c.is_marked.result ↔ HasBit m j) c.slot.ensures c.is_marked.ensures)
