use Rattle.std.proofs.Common.{ap, ◌∙◌, rules}
use Rattle.std.specs.List.{flat_map}
use Rattle.layout.specs.Numbers.{four}
use Rattle.layout.specs.Bodies.{body_bytes}
use Rattle.layout.proofs.OneBody.{fit_in_page, body_same}
use Rattle.layout.proofs.page.Page.encode.Goals as goal

pub returns-clause-bytes : goal.returns-clause-bytes
unfolding body_bytes
returns-clause-bytes c = c.bytes_of.ensures.bytes ∙ ap (flat_map four) c.to_words.ensures

pub returns-clause-only : goal.returns-clause-only
returns-clause-only c = λ p h e.
    let fit = fit_in_page c.args.self.now (rw c.to_words.ensures at c.bytes_of.ensures.fit) in
    body_same p c.args.self.now h (record { ten_marks = search rules; ten_words = search rules; fit = fit }) (e ∙ returns-clause-bytes c)
