use Rattle.std.proofs.Common.{◌≡◌, Some, get_or, drop, map, ◌∙◌, ap, sym, inl, inr, eq-eqb, rules, arith}
use Rattle.std.proofs.lemmas.Bool.Decides.{eqb_tells}
use Rattle.std.proofs.lemmas.List.{length-drop, get_or-drop}
use Rattle.std.specs.Bool.{then_some}
use Rattle.layout.specs.Words.{value_of}
use Rattle.layout.specs.Bodies.{kinds}
use Rattle.layout.proofs.DataKinds.{words_of, words_of-more, words_of-all, words_of_only, map-words_of}
use Rattle.layout.proofs.body.read_words.Goals as goal

pub loop-at-preserved : goal.loop-at-preserved
loop-at-preserved c =
    let values = length-drop 2 c.args.body.now in
    let value = get_or-drop 2 c.args.body.now c.loop-at.at 0 in
    let more = words_of-more c.loop-at.words (drop 2 c.args.body.now) c.loop-at.at c.loop-at.rest (omega arith) (omega arith) in
    record { ten = search rules; read = cc }

read : (c : goal.After-then_some) → c.loop-at.words ≡ words_of (get_or c.args.body.now 1 0) (drop 2 c.args.body.now)
read c =
    let values = length-drop 2 c.args.body.now in
    words_of-all c.loop-at.words (drop 2 c.args.body.now) c.loop-at.at c.loop-at.rest (get_or c.args.body.now 1 0)
    (omega arith) (omega arith) c.loop-at.invariant.read

pub returns-clause-found : goal.returns-clause-found
returns-clause-found c = rw c.then_some.ensures (elim (eqb_tells c.kinds_of.result (get_or c.args.body.now 1 0)) [
  | inl same ↦ rw same.0 (sym c.kinds_of.ensures ∙ same.1, ap (map value_of) (read c) ∙ map-words_of _ _)
  | inr other ↦ rw other.0 tt
])

pub returns-clause-only : goal.returns-clause-only
returns-clause-only c = λ ws k v.
    let only = read c ∙ words_of_only ws _ _ k v in
    let same = eq-eqb c.kinds_of.result (get_or c.args.body.now 1 0) (c.kinds_of.ensures ∙ ap kinds only ∙ k) in
    c.then_some.ensures ∙ ap (λ told. then_some told c.loop-at.words) same ∙ ap Some only
