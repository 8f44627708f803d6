-- The sector of the write at the place is settled, if there is one.
-- Assumes nothing.
use Rattle.std.proofs.Common.{ℕ, subst, refl, arith}
use Rattle.bench.specs.Benches.{memory, queued}
use Rattle.bench.specs.Settling.{SettlesAt}
use Rattle.bench.proofs.Settled.{settles_for}
use Rattle.bench.proofs.bench.Bench.settle_for.Goals as goal

pub returns-then-sector-count-clause-settled : goal.returns-then-sector-count-clause-settled
returns-then-sector-count-clause-settled c = settles_for c.args.k c.args.numbers.now (queued c.args.self.now) (memory c.args.self.now) _ c.in-Some.write c.in-Some.ensures
    (λ h. subst (λ (k : ℕ). SettlesAt k c.in-Some.write.sector (queued c.args.self.now) (memory c.args.self.now) (memory c.settle_sector.new.self)) c.number_for.ensures c.settle_sector.ensures.settled)
    (λ h. let l = c.if-sector-count.true in absurd (omega arith))

pub returns-else-sector-count-clause-settled : goal.returns-else-sector-count-clause-settled
returns-else-sector-count-clause-settled c = settles_for c.args.k c.args.numbers.now (queued c.args.self.now) (memory c.args.self.now) _ c.in-Some.write c.in-Some.ensures
    (λ h. let l = c.if-sector-count.false in absurd (omega arith))
    (λ h. refl)
