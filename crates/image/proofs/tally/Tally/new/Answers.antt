-- Nothing is marked yet.
-- Assumes nothing.
use Rattle.std.proofs.Common.{refl}
use Rattle.image.proofs.Tallying.{empty_tally}
use Rattle.image.proofs.tally.Tally.new.Goals as goal

pub returns : goal.returns
returns c = λ root. empty_tally root _ refl refl refl
