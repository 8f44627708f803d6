-- Eight wait, and the oldest becomes durable.
-- Assumes nothing.
use Rattle.std.proofs.Common.{ℕ, List, ◌∷◌, sym, ap, ◌∙◌, subst, arith}
use Rattle.device.specs.declared.pending.PendingWrite.{PendingWrite}
use Rattle.device.specs.declared.queue.Queue.{Queue}
use Rattle.device.specs.Queues.{waiting}
use Rattle.bench.specs.Waits.{MakesDurable}
use Rattle.bench.proofs.Storing.{oldest_keeps, full_stored, full_gone}
use Rattle.bench.proofs.bench.Bench.make_room.Goals as goal

pub returns-in-Some : goal.returns-in-Some
returns-in-Some c =
    let w = c.in-Some.oldest in
    let taken = c.in-Some.ensures in
    let q = c.put.ensures.pending in
    let e = taken.taken ∙ ap (λ (z : Queue PendingWrite). w ∷ waiting z) (sym q) in
    let d = subst (λ (z : List ℕ). MakesDurable w z c.put.new.self.rows.bytes.now) (ap (λ x. x.bytes.now) taken.rows) c.put.ensures.memory in
    record {
      memory = full_stored w _ _ _ _ e d (omega (arith, c.len.ensures));
      kept = oldest_keeps w _ _ _ _ e d;
      pending = full_gone w _ _ _ _ e d (omega (arith, c.len.ensures));
      same = record {
        rows = c.put.ensures.same ∙ ap (λ x. x.bytes.ghost_name) taken.rows;
        slots = ap (λ (z : Queue PendingWrite). z.slots.ghost_name) q ∙ taken.same.slots;
      };
      slots = ap (λ (z : Queue PendingWrite). z.slots.now) q ∙ taken.slots;
    }
