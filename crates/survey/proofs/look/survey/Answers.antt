-- A sector that was looked at has its condition in the table; the read that is refused is the last call.
-- Assumes nothing.
use Rattle.std.proofs.Common.{arith, rules}
use Rattle.survey.proofs.Tables.{one_more, cut_short}
use Rattle.survey.proofs.look.survey.Goals as goal

pub loop-sector-preserved : goal.loop-sector-preserved
loop-sector-preserved g c = one_more _ _ _ _ _ _ _ _ c.loop-sector.invariant (omega arith) (search rules) (search rules)

pub returns-in_err-condition-clause-made : goal.returns-in_err-condition-clause-made
returns-in_err-condition-clause-made g c =
    let cut = cut_short _ _ _ _ _ _ _ _ c.loop-sector.invariant (omega arith) (search rules) c.look.ensures.told c.look.ensures.made in
    search rules
