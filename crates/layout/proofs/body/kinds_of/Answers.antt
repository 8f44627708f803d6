use Rattle.std.proofs.Common.{◌≡◌, sym, ap, arith}
use Rattle.std.proofs.lemmas.List.{drop_all}
use Rattle.layout.specs.Bodies.{kinds}
use Rattle.layout.proofs.DataKinds.{kinds_down}
use Rattle.layout.proofs.body.kinds_of.Goals as goal

pub loop-at-init : goal.loop-at-init
unfolding kinds
loop-at-init c =
    sym (ap kinds (drop_all 10 c.args.words.now (omega arith)))

pub loop-at-preserved : goal.loop-at-preserved
loop-at-preserved c =
    let down = kinds_down c.args.words.now c.loop-at.at c.loop-at.head c.told-words
    (c.loop-at-test.true, c.loop-at.auto.at) c.loop-at.invariant in
    cc

pub returns : goal.returns
returns c =
    let none : c.loop-at.at ≡ 0 = omega arith in
    rw none at c.loop-at.invariant

pub overflow_mul-head : goal.overflow_mul-head
overflow_mul-head c =
    let down = kinds_down c.args.words.now c.loop-at.at c.loop-at.head c.told-words
    (c.loop-at-test.true, c.loop-at.auto.at) c.loop-at.invariant in
    omega arith

pub overflow_add-head : goal.overflow_add-head
overflow_add-head c =
    let down = kinds_down c.args.words.now c.loop-at.at c.loop-at.head c.told-words
    (c.loop-at-test.true, c.loop-at.auto.at) c.loop-at.invariant in
    omega arith
