-- The place that stands so many after that of the oldest, up to the last place and from place 0 on.
-- Assumes nothing.
use Rattle.std.proofs.Common.{ℕ, [], ◌∷◌, ◌++◌, ap, ◌∙◌, arith}
use Rattle.device.specs.Queues.{ring}
use Rattle.device.proofs.Turned.{puts_near, puts_round}
use Rattle.device.proofs.queue.Queue.place.Goals as goal

pub returns-then-after-past-clause-puts : goal.returns-then-after-past-clause-puts
returns-then-after-past-clause-puts g c h x = let q = c.args.self.now in
    puts_near q.slots.now q.first c.args.after x (omega arith) ∙ ap (λ (k : ℕ). ring q.slots.now q.first k ++ x ∷ []) h

pub returns-else-after-past-clause-puts : goal.returns-else-after-past-clause-puts
returns-else-after-past-clause-puts g c h x = let q = c.args.self.now in let i = q.inside in
    puts_round q.slots.now q.first c.args.after _ x (omega arith) (omega arith) (omega arith) c.requires ∙ ap (λ (k : ℕ). ring q.slots.now q.first k ++ x ∷ []) h
