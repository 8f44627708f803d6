-- Each turn takes out one object, reads its page and visits its words.
-- Assumes nothing.
use Rattle.std.proofs.Common.{◌==◌, ℕ, [], ◌∷◌, ◌++◌, length, List, ap, refl, ◌∙◌, arith}
use Rattle.std.specs.List.{All}
use Rattle.std.proofs.lemmas.List.{length-replicate}
use Rattle.std.proofs.lemmas.List.Sums.{count_by-le-length}
use Rattle.device.proofs.Calling.{read_then}
use Rattle.image.specs.Phases.{Just}
use Rattle.image.specs.Stages.{judged_log, body_sector, IsJudgedPage, IsPageFault, IsAnother}
use Rattle.image.proofs.Lookings.{carried, off_less, fails_as, fails_then}
use Rattle.audit.specs.Order.{IsBody}
use Rattle.audit.proofs.Marking.{marks_room}
use Rattle.audit.proofs.Objects.{root_marks, object_marks}
use Rattle.audit.proofs.Ordering.{told_page, first_body, next_body}
use Rattle.audit.proofs.Turns.{root_there, root_read, object_there, object_slot, object_read}
use Rattle.audit.proofs.Walks.{walk_starts, walk_reached, walk_goes_on, walk_ends}
use Rattle.audit.proofs.walk.count_reachable.Goals as goal

pub returns-in_err-page : goal.returns-in_err-page
returns-in_err-page g c =
    let n = g.D.Device.count c.args.device.now in
    let σ = g.D.Device.current c.args.device.now in
    let (H, j) = c.requires.judged in
    let y = c.args.judged.now in
    let s = c.root.result in
    let e = c.in_err-page.ensures in
    let i = (e.pages n σ H j).1 (root_there n σ H j.holds _ (c.root.ensures n σ H j)) in
    let P = Just (body_sector (judged_log y) s ∷ []) in
    fails_as g.D.Device _ P (All (IsBody (judged_log y))) (λ ts n σ q. P ts × (IsPageFault s q × IsAnother n σ y)) (λ ts n σ q. ⊥) _ _ _ _ (e.inside i)
    (λ l. off_less g.D.Device P (All (IsBody (judged_log y))) _ _ l (λ ts f. (first_body (judged_log y) s ts i f).0))
    (λ ts q f. f.1.1 H j) c.from_residual.ensures.1

pub unwrap-root-requires : goal.unwrap-root-requires
unwrap-root-requires g c =
    let n = g.D.Device.count c.args.device.now in
    let σ = g.D.Device.current c.args.device.now in
    let (H, j) = c.requires.judged in
    let e = c.in_ok-page.ensures in
    let i = (e.pages n σ H j).1 (root_there n σ H j.holds _ (c.root.ensures n σ H j)) in
    let (on, (ss, ran, (row, (p, f, x, z)))) = e.inside i in
    rw f refl

pub visit_all-requires-clause-inside : goal.visit_all-requires-clause-inside
visit_all-requires-clause-inside g c =
    let n = g.D.Device.count c.args.device.now in
    let σ = g.D.Device.current c.args.device.now in
    let (H, j) = c.requires.judged in
    let e = c.in_ok-page.ensures in
    let i = (e.pages n σ H j).1 (root_there n σ H j.holds _ (c.root.ensures n σ H j)) in
    let (on, (ss, ran, (row, x))) = e.inside i in
    let p = told_page n σ c.args.judged.now c.root.result _ c.unwrap-root.result x c.unwrap-root.ensures in
    root_marks n σ H j.holds _ (ap (λ (ms : List ℕ). length ms) c.requires.clear ∙ length-replicate {A = ℕ} _ 0) _
    (root_read n σ H j.holds _ _ (c.root.ensures n σ H j) (p H j))

pub loop-number-init : goal.loop-number-init
loop-number-init g c =
    let n = g.D.Device.count c.args.device.now in
    let σ = g.D.Device.current c.args.device.now in
    let (K, k) = c.requires.judged in
    let y = c.args.judged.now in
    let s = c.root.result in
    let e = c.in_ok-page.ensures in
    let i = (e.pages n σ K k).1 (root_there n σ K k.holds _ (c.root.ensures n σ K k)) in
    let (on, (ss, ran, (row, x))) = e.inside i in
    let p = told_page n σ y s _ c.unwrap-root.result x c.unwrap-root.ensures in
    let v = c.visit_all.ensures.visits in
    let room = marks_room _ _ _ _ _ v.marks in
    let none_yet = ap (λ (q : List ℕ). length q) c.new-queue.ensures.empty in
    let all = count_by-le-length (λ (k : ℕ). k == 0) c.args.marks.now in
    let long = ap (λ (q : List ℕ). length q) c.new-queue.ensures.untouched in
    record {
      looked = (ss, ran, first_body (judged_log y) s ss i row);
      on = on;
      walked = λ H j. walk_starts n σ H j.holds _ _ _ _ _ _
          (root_read n σ H j.holds _ _ (c.root.ensures n σ H j) (p H j)) c.requires.clear c.new-queue.ensures.empty v;
      room = omega (arith, c.requires.room, c.visit_all.ensures.places);
      fits = omega arith;
    }

pub returns-in_err-page-2 : goal.returns-in_err-page-2
returns-in_err-page-2 g c =
    let n = g.D.Device.count c.args.device.now in
    let σ = g.D.Device.current c.args.device.now in
    let inv = c.loop-number.invariant in
    let (H, j) = c.requires.judged in
    let y = c.args.judged.now in
    let s = c.sector.result in
    let r = walk_reached H _ _ _ _ _ (inv.walked H j) c.in-Some.ensures.taken in
    let e = c.in_err-page-2.ensures in
    let i = (e.pages n σ H j).1 (object_there n σ H j.holds _ _ _ r c.from.ensures c.sector.ensures) in
    let (ws, ran, a) = inv.looked in
    let P = Just (body_sector (judged_log y) s ∷ []) in
    fails_then g.D.Device _ ws P (All (IsBody (judged_log y))) (λ ts n σ q. P ts × (IsPageFault s q × IsAnother n σ y)) (λ ts n σ q. ⊥) _ _ _ _ _ ran (e.inside i)
    (λ ts f. (next_body (judged_log y) s c.loop-number.count ws ts i a f).0) (λ ts q f. f.1.1 H j) c.from_residual-in_err-page-2.ensures.1

pub unwrap-page-requires : goal.unwrap-page-requires
unwrap-page-requires g c =
    let n = g.D.Device.count c.args.device.now in
    let σ = g.D.Device.current c.args.device.now in
    let inv = c.loop-number.invariant in
    let (H, j) = c.requires.judged in
    let r = walk_reached H _ _ _ _ _ (inv.walked H j) c.in-Some.ensures.taken in
    let e = c.in_ok-page-2.ensures in
    let i = (e.pages n σ H j).1 (object_there n σ H j.holds _ _ _ r c.from.ensures c.sector.ensures) in
    let (on, (ss, ran, (row, (p, f, x, z)))) = e.inside i in
    rw f refl

pub words_of-requires : goal.words_of-requires
words_of-requires g c =
    let n = g.D.Device.count c.args.device.now in
    let σ = g.D.Device.current c.args.device.now in
    let inv = c.loop-number.invariant in
    let (H, j) = c.requires.judged in
    let y = c.args.judged.now in
    let r = walk_reached H _ _ _ _ _ (inv.walked H j) c.in-Some.ensures.taken in
    let e = c.in_ok-page-2.ensures in
    let i = (e.pages n σ H j).1 (object_there n σ H j.holds _ _ _ r c.from.ensures c.sector.ensures) in
    let (on, (ss, ran, (row, x))) = e.inside i in
    let p = carried g.D.Device (λ n σ. IsJudgedPage n σ y c.sector.result c.unwrap-page.result) _ _ _ inv.looked.1
    (told_page _ _ y c.sector.result _ c.unwrap-page.result x c.unwrap-page.ensures) in
    object_slot n σ H j.holds _ _ _ r c.from.ensures c.sector.ensures _ (p H j) _ c.slot.ensures

pub visit_all-requires-in-Some-clause-inside : goal.visit_all-requires-in-Some-clause-inside
visit_all-requires-in-Some-clause-inside g c =
    let n = g.D.Device.count c.args.device.now in
    let σ = g.D.Device.current c.args.device.now in
    let inv = c.loop-number.invariant in
    let (H, j) = c.requires.judged in
    let y = c.args.judged.now in
    let r = walk_reached H _ _ _ _ _ (inv.walked H j) c.in-Some.ensures.taken in
    let e = c.in_ok-page-2.ensures in
    let i = (e.pages n σ H j).1 (object_there n σ H j.holds _ _ _ r c.from.ensures c.sector.ensures) in
    let (on, (ss, ran, (row, x))) = e.inside i in
    let p = carried g.D.Device (λ n σ. IsJudgedPage n σ y c.sector.result c.unwrap-page.result) _ _ _ inv.looked.1
    (told_page _ _ y c.sector.result _ c.unwrap-page.result x c.unwrap-page.ensures) in
    object_marks n σ H j.holds _ (c.loop-number.auto.marks ∙ c.visit_all.auto.marks
    ∙ ap (λ (ms : List ℕ). length ms) c.requires.clear ∙ length-replicate {A = ℕ} _ 0) _ _ r
    (object_read n σ H j.holds _ _ _ r c.from.ensures c.sector.ensures _ (p H j) _ c.slot.ensures _ c.words_of.ensures)

pub loop-number-smaller : goal.loop-number-smaller
loop-number-smaller g c =
    let room = marks_room _ _ _ _ _ c.visit_all-in-Some.ensures.visits.marks in
    let one = ap (λ (q : List ℕ). length q) c.in-Some.ensures.taken in
    omega arith

pub loop-number-preserved : goal.loop-number-preserved
loop-number-preserved g c =
    let n = g.D.Device.count c.args.device.now in
    let σ = g.D.Device.current c.args.device.now in
    let inv = c.loop-number.invariant in
    let y = c.args.judged.now in
    let s = c.sector.result in
    let v = c.visit_all-in-Some.ensures.visits in
    let (K, k) = c.requires.judged in
    let e = c.in_ok-page-2.ensures in
    let reached = walk_reached K _ _ _ _ _ (inv.walked K k) c.in-Some.ensures.taken in
    let i = (e.pages n σ K k).1 (object_there n σ K k.holds _ _ _ reached c.from.ensures c.sector.ensures) in
    let (on, x) = e.inside i in
    let p = carried g.D.Device (λ n σ. IsJudgedPage n σ y s c.unwrap-page.result) _ _ _ inv.looked.1
    (told_page _ _ y s _ c.unwrap-page.result x.2.1 c.unwrap-page.ensures) in
    let room = marks_room _ _ _ _ _ v.marks in
    let one = ap (λ (q : List ℕ). length q) c.in-Some.ensures.taken in
    let same = ap (λ (q : List ℕ). length q) c.in-Some.ensures.untouched in
    record {
      looked = (
        inv.looked.0 ++ x.0,
        read_then g.D.Device inv.looked.0 x.0 _ _ _ inv.looked.1 x.1,
        next_body (judged_log y) s c.loop-number.count inv.looked.0 x.0 i inv.looked.2 x.2.0,
      );
      on = on;
      walked = λ H j.
          let r = walk_reached H _ _ _ _ _ (inv.walked H j) c.in-Some.ensures.taken in
          walk_goes_on n σ H j.holds _ _ _ _ _ (inv.walked H j) c.in-Some.ensures.taken _ _ _
          (object_read n σ H j.holds _ _ _ r c.from.ensures c.sector.ensures _
          (p H j) _ c.slot.ensures _ c.words_of.ensures) v;
      room = omega (arith, inv.room, c.visit_all-in-Some.ensures.places);
      fits = omega (arith, inv.fits, c.visit_all-in-Some.auto.marks);
    }

pub returns : goal.returns
returns g c =
    let inv = c.loop-number.invariant in
    let n = g.D.Device.count c.args.device.now in
    let σ = g.D.Device.current c.args.device.now in
    let (ws, ran, a) = inv.looked in
    (inv.on, (ws, ran, (a.0, a.1, λ H j. walk_ends n σ H j.holds _ _ _ c.in_default.ensures.taken.0 (inv.walked H j))))
