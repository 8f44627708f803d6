use Rattle.std.proofs.Common.{Some, ◌∙◌, ap}
use Rattle.layout.proofs.Headers.{same_as_read}
use Rattle.layout.proofs.header.Header.read.Goals as goal

pub returns : goal.returns
returns c = λ h e.
    let g = c.in_ok-geometry.ensures.value in
    let log = g.1 ∙ c.from.ensures ∙ c.two_at.ensures in
    ap Some (same_as_read h _ _ e (g.0 ∙ c.four_at.ensures) log c.four_at-epoch.ensures c.four_at-transactions.ensures)
