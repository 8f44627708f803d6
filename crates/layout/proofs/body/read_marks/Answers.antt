use Rattle.std.proofs.Common.{◌≤◌, length, ◌∙◌, refl, rules, arith}
use Rattle.std.proofs.lemmas.List.{take_all}
use Rattle.layout.specs.Bodies.{marks}
use Rattle.layout.proofs.Marks.{marks-take_more}
use Rattle.layout.proofs.body.read_marks.Goals as goal

pub loop-slot-init : goal.loop-slot-init
unfolding marks
loop-slot-init c = record { ten = refl; read = refl }

pub loop-slot-preserved : goal.loop-slot-preserved
loop-slot-preserved c = record {
  ten = search rules;
  read = marks-take_more c.loop-slot.used c.loop-slot.slot c.loop-slot.rest (omega arith) ∙ c.loop-slot.invariant.read;
}

pub returns : goal.returns
returns c =
    let all : length c.loop-slot.used ≤ c.loop-slot.slot = omega arith in
    rw take_all at c.loop-slot.invariant.read
