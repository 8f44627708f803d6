-- The places from the oldest on, and as many of those before it as are still to come.
-- Assumes nothing.
use Rattle.std.proofs.Common.{ℕ, ◌++◌, take, sym, ap, ap₂, ◌∙◌, arith}
use Rattle.std.proofs.Math.Seq.{take-append-add}
use Rattle.device.proofs.queue.Queue.as_slices.Goals as goal

pub returns-in-Some : goal.returns-in-Some
returns-in-Some g c =
    let q = c.args.self.now in
    let first = c.split_at.result.1.now in
    let second = c.split_at.result.0.now in
    ap (take q.len) (ap₂ (λ x y. x ++ y) (sym c.split_at.ensures.back) (sym c.split_at.ensures.front))
    ∙ ap (λ (n : ℕ). take n (first ++ second)) (omega (arith, c.in-Some.ensures))
    ∙ take-append-add first second c.in-Some.more
