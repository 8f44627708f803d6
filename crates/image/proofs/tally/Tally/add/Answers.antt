-- One page more.
-- Assumes nothing.
use Rattle.std.proofs.Common.{◌≡◌, cond, ap, ◌∙◌, arith}
use Rattle.std.proofs.lemmas.List.Sums.{count_by-le-length}
use Rattle.image.specs.Heaps.{is_free}
use Rattle.image.proofs.Tallying.{byte_of, one_at_most, more_tally}
use Rattle.image.proofs.tally.Tally.add.Goals as goal

pub returns : goal.returns
returns c = λ root ps e y.
    let l = count_by-le-length is_free ps in
    let f : c.from.result ≡ cond (is_free c.args.page.now) 1 0 = c.from.ensures ∙ byte_of c.is_free.result ∙ ap (λ b. cond b 1 0) c.is_free.ensures in
    let few = c.objects.ensures.few in
    let k = c.requires in
    more_tally root ps _ _ c.args.page.now c.args.sector e c.requires y (cc (c.marks.ensures)) (omega (arith, y.free_pages, f, one_at_most (is_free c.args.page.now)))
    (omega (arith, c.objects.ensures.value, y.few, k)) (omega (arith, c.objects.ensures.value))
