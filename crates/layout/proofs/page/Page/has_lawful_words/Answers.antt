use Rattle.std.proofs.Common.{◌*◌, ap, arith}
use Rattle.layout.specs.Classes.{size_of}
use Rattle.layout.proofs.PageSlots.{slots_have_words}
use Rattle.layout.proofs.page.Page.has_lawful_words.Goals as goal
use Rattle.layout.proofs.page.Page.has_lawful_words.Goals.{then-word-end, else-word-end}

pub has_lawful_word-requires-clause-slot : goal.has_lawful_word-requires-clause-slot
has_lawful_word-requires-clause-slot c = λ some.
    let before = c.loop-word.invariant.slot some in
    let words = slots_have_words c.args.self.now.class some in
    elim c.if-word-end.branch [
      | then-word-end w ↦ let next = ap (λ n. n * size_of c.args.self.now.class) w.slot-is in omega arith
      | else-word-end w ↦ grind (arith, before)
    ]
