use Rattle.std.proofs.Common.{◌≡◌, ap, sym, ◌∙◌}
use Rattle.std.proofs.lemmas.Option.{IfSome_then}
use Rattle.std.specs.List.{flat_map}
use Rattle.layout.specs.Numbers.{four}
use Rattle.layout.specs.Pages.{Shaped}
use Rattle.layout.specs.Bodies.{body_words, body_bytes}
use Rattle.layout.proofs.Bytes.{fours_same}
use Rattle.layout.proofs.OneBody.{words_fit}
use Rattle.layout.proofs.page.Page.decode.Goals as goal

pub returns-clause-found : goal.returns-clause-found
unfolding body_bytes
returns-clause-found c =
    IfSome_then _
    {P = λ p. Shaped p × (body_words p ≡ c.words_of.result)}
    {Q = λ p. Shaped p × (body_bytes p ≡ c.args.bytes.now)}
    c.from_words.ensures.found (λ p h. (h.0, ap (flat_map four) h.1 ∙ c.words_of.ensures))

pub returns-clause-only : goal.returns-clause-only
unfolding body_bytes
returns-clause-only c = λ p h e.
    let bytes = e ∙ sym c.words_of.ensures in
    c.from_words.ensures.only p h (fours_same (body_words p) c.words_of.result (words_fit p h) c.from_words.ensures.fit bytes)
