-- No number of 16 bits has a bit above them.
-- Assumes nothing.
use Rattle.std.proofs.Common.{arith, rules}
use Rattle.std.proofs.lemmas.Bool.{ltb-true}
use Rattle.layout.proofs.Bits.{no_bit_above}
use Rattle.layout.proofs.slots.is_marked.Goals as goal

pub returns-else-slot-lt16 : goal.returns-else-slot-lt16
returns-else-slot-lt16 c = let l = c.if-slot-lt16.false in (λ t. absurd (let k = ltb-true c.args.slot 16 t in omega arith), λ h. absurd (no_bit_above c.args.marks c.args.slot (search rules) (omega arith) h))
