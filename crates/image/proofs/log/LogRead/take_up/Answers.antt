-- What stands at the next position is taken up, or the log ends.
-- Assumes nothing.
use Rattle.std.proofs.Common.{refl}
use Rattle.image.proofs.Taking.{take_page, ends_inside}
use Rattle.image.proofs.Naming.{named_by}
use Rattle.image.proofs.log.LogRead.take_up.Goals as goal

pub returns-in-Page-clause-taken : goal.returns-in-Page-clause-taken
returns-in-Page-clause-taken c = λ σ h l r e. take_page σ h _ _ r _ _ l c.requires (rw c.in-Page.is at e) refl (cc (c.from.ensures)) refl refl

pub returns-in-End-clause-taken : goal.returns-in-End-clause-taken
returns-in-End-clause-taken c = λ σ h l r e. ends_inside σ h _ _ r l (λ ts t _ _. let z = rw c.in-End.is at e in z ts t)

pub returns-in-Commit-clause-taken : goal.returns-in-Commit-clause-taken
returns-in-Commit-clause-taken c = λ σ h l r e. c.take_commit.ensures.taken σ h l r (rw c.in-Commit.is at e)

pub invariant_of-self-clause-names : goal.invariant_of-self-clause-names
invariant_of-self-clause-names c = named_by _ _ _ _ c.args.self.now.names c.note_home.ensures.noted c.note_home.ensures.kept c.from.result
