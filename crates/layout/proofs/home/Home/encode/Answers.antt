use Rattle.std.proofs.Common.{◌∙◌, arith, rules}
use Rattle.layout.specs.Homes.{home_bytes}
use Rattle.layout.proofs.Homes.{one_home}
use Rattle.layout.proofs.home.Home.encode.Goals as goal

pub returns-clause-value : goal.returns-clause-value
unfolding home_bytes
returns-clause-value c = search rules

pub returns-clause-only : goal.returns-clause-only
returns-clause-only c = λ s body small h. one_home s _ body _ small (omega arith) (h ∙ returns-clause-value c)
