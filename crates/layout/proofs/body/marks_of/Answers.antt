use Rattle.std.proofs.Common.{◌≡◌, sym, ap, arith}
use Rattle.std.proofs.lemmas.List.{drop_all}
use Rattle.layout.specs.Bodies.{marks}
use Rattle.layout.proofs.Marks.{marks_down}
use Rattle.layout.proofs.body.marks_of.Goals as goal

pub loop-slot-init : goal.loop-slot-init
unfolding marks
loop-slot-init c =
    sym (ap (λ us. marks us c.args.code) (drop_all 10 c.args.used.now (omega arith)))

pub loop-slot-preserved : goal.loop-slot-preserved
loop-slot-preserved c =
    let down = marks_down c.args.used.now c.loop-slot.slot c.loop-slot.head c.args.code c.told-used c.requires
    (c.loop-slot-test.true, c.loop-slot.auto.slot) c.loop-slot.invariant in
    cc

pub returns : goal.returns
returns c =
    let none : c.loop-slot.slot ≡ 0 = omega arith in
    rw none at c.loop-slot.invariant

pub overflow_mul-head : goal.overflow_mul-head
overflow_mul-head c =
    let down = marks_down c.args.used.now c.loop-slot.slot c.loop-slot.head c.args.code c.told-used c.requires
    (c.loop-slot-test.true, c.loop-slot.auto.slot) c.loop-slot.invariant in
    omega arith

pub overflow_add-head : goal.overflow_add-head
overflow_add-head c =
    let down = marks_down c.args.used.now c.loop-slot.slot c.loop-slot.head c.args.code c.told-used c.requires
    (c.loop-slot-test.true, c.loop-slot.auto.slot) c.loop-slot.invariant in
    omega arith
