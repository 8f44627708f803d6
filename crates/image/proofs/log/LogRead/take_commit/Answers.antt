-- A commit record is taken up, or is miscounted or misnumbered.
-- Assumes nothing.
use Rattle.std.proofs.Common.{refl, arith}
use Rattle.image.proofs.Taking.{take_commit, miscounted, misnumbered}
use Rattle.image.proofs.log.LogRead.take_commit.Goals as goal

pub returns-clause-taken : goal.returns-clause-taken
returns-clause-taken c = λ σ h l r e. take_commit σ h _ _ r _ _ _ l c.requires e (omega arith) (omega arith) refl (cc) refl refl

pub returns-then-pages-from-clause-taken : goal.returns-then-pages-from-clause-taken
returns-then-pages-from-clause-taken c = λ σ h l r e. miscounted σ h _ _ r _ _ l e (λ q. c.if-pages-from.true (omega arith))

pub returns-then-from-next-clause-taken : goal.returns-then-from-next-clause-taken
returns-then-from-next-clause-taken c = λ σ h l r e. misnumbered σ h _ _ r _ _ l e (λ q. c.if-from-next.true (omega arith))
