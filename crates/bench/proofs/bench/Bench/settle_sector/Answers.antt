-- The number keeps the sector, tears it, or takes one of the writes to it.
-- Assumes nothing.
use Rattle.std.proofs.Common.{◌-◌, rules, sym, ◌∙◌, arith}
use Rattle.bench.specs.Benches.{memory, queued}
use Rattle.bench.proofs.Settled.{keeps, torn_now, torn_not, taken, taken_not}
use Rattle.bench.proofs.bench.Bench.settle_sector.Goals as goal

pub returns-in-0-clause-settled : goal.returns-in-0-clause-settled
returns-in-0-clause-settled c = keeps c.args.sector (queued c.args.self.now) (memory c.args.self.now) c.requires c.args.number c.in-0.is

pub returns-then-is_some-clause-settled : goal.returns-then-is_some-clause-settled
returns-then-is_some-clause-settled c = torn_now c.args.sector (queued c.args.self.now) (memory c.args.self.now) c.requires c.args.number _ c.nth_for.result c.in-9.is c.nth_for.ensures (sym c.is_some.ensures ∙ c.if-is_some.true) c.tear.ensures.memory

pub returns-else-is_some-clause-settled : goal.returns-else-is_some-clause-settled
returns-else-is_some-clause-settled c = torn_not c.args.sector (queued c.args.self.now) (memory c.args.self.now) c.requires c.args.number c.nth_for.result c.in-9.is c.nth_for.ensures (sym c.is_some.ensures ∙ c.if-is_some.false)

pub returns-in-Some-clause-settled : goal.returns-in-Some-clause-settled
returns-in-Some-clause-settled c = taken c.args.sector (queued c.args.self.now) (memory c.args.self.now) c.requires c.args.number (c.from.result - 1) _ _ c.in-Some.write c.put.result
    (λ e. omega arith) (let e = c.from.ensures in omega arith) c.in-Some.ensures (search rules) c.marked-row.ensures c.put.ensures.put

pub returns-in_default-nth_for-clause-settled : goal.returns-in_default-nth_for-clause-settled
returns-in_default-nth_for-clause-settled c = taken_not c.args.sector (queued c.args.self.now) (memory c.args.self.now) c.requires c.args.number (c.from.result - 1)
    (λ e. omega arith) (let e = c.from.ensures in omega arith) c.in_default-nth_for.ensures
