-- Each turn visits one word more.
-- Assumes nothing.
use Rattle.std.proofs.Common.{◌∙◌, refl, arith}
use Rattle.audit.specs.Visits.Marks.{none}
use Rattle.audit.proofs.Marking.{marks_room, visited_more}
use Rattle.audit.proofs.walk.visit_all.Goals as goal

pub loop-word-init : goal.loop-word-init
loop-word-init c = record { visited = record { marks = none; all = λ k j l. absurd (omega arith) }; places = refl }

pub visit-requires-clause-inside : goal.visit-requires-clause-inside
visit-requires-clause-inside c = λ k e. omega (arith, c.requires.inside k (c.loop-word.word-index, c.loop-word-test.true, e))

pub visit-requires-clause-room : goal.visit-requires-clause-room
visit-requires-clause-room c = omega (arith, c.requires.room, marks_room _ _ _ _ _ c.loop-word.invariant.visited.marks)

pub loop-word-preserved : goal.loop-word-preserved
loop-word-preserved c = record {
  visited = visited_more c.args.words.now _ _ _ _ _ _ _ c.loop-word-test.true c.loop-word.invariant.visited c.visit.ensures.visits;
  places = c.visit.ensures.places ∙ c.loop-word.invariant.places;
}

pub returns-clause-visits : goal.returns-clause-visits
returns-clause-visits c =
    let v = c.loop-word.invariant.visited in
    record { marks = v.marks; all = λ k r. v.all k r.0 (omega (arith, r.1)) r.2 }
