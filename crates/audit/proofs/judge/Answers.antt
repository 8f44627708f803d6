-- Each stage takes up what the one before it found of the same image.
-- Assumes nothing.
use Rattle.std.proofs.Common.{◌≡◌, ℕ, [], ◌∷◌, ◌++◌, List, sym, ap, ◌∙◌, subst, arith}
use Rattle.device.specs.Calling.{each}
use Rattle.device.proofs.Calling.{read_then}
use Rattle.layout.specs.declared.header.Header.{Header}
use Rattle.image.specs.declared.refusal.ImageRefusal.{ImageRefusal}
use Rattle.image.specs.declared.log.LogRead.{LogRead}
use Rattle.image.specs.Heaps.{Heap}
use Rattle.image.specs.Headers.{IsHeaderOf, log_sector, TellsLater}
use Rattle.image.specs.Images.{Judged}
use Rattle.image.specs.Phases.{Just, SomeOf, twice}
use Rattle.image.specs.Stages.{header_of, log_header, judged_log, TellsNoHeader, IsReadOf, IsReadFrom, IsJudgedOf, JudgeEnds, nth_body, page_count}
use Rattle.image.proofs.Lookings.{carried, off_less, fails_as, fails_then, finds_then}
use Rattle.audit.specs.Order.{behind_log, LogReads, RefusalReads, CheckReads, headers, walk, JudgedWhole, WalkReads}
use Rattle.audit.proofs.Ordering.{log_behind, log_cut, judged_whole, pages_refused}
use Rattle.audit.proofs.judge.Goals as goal

pub returns-in_err-headers : goal.returns-in_err-headers
returns-in_err-headers g c =
    let n = g.D.Device.count c.args.device.now in
    let σ = g.D.Device.current c.args.device.now in
    let P = Just (0 ∷ 1 ∷ []) in
    fails_as g.D.Device _ P (CheckReads n σ) (λ ts n σ q. P ts × TellsNoHeader n σ q) (λ ss n σ q. RefusalReads n σ q ss × Judged n σ q) _ _ _ _ c.in_err-headers.ensures
    (λ l. off_less g.D.Device P (CheckReads n σ) _ _ l (λ ts e. headers e))
    (λ ts q f. subst (λ (q : ImageRefusal). RefusalReads n σ q ts × Judged n σ q) (sym f.1.0) (f.0, f.1.1)) c.from_residual.ensures.1

pub returns-in_err-log : goal.returns-in_err-log
returns-in_err-log g c =
    let n = g.D.Device.count c.args.device.now in
    let σ = g.D.Device.current c.args.device.now in
    let (on, (ss, ran, (row, a))) = c.in_ok-headers.ensures in
    let k = header_of c.in_ok-headers.headers in
    fails_then g.D.Device _ ss (Just (twice log_sector k.geometry.log)) (CheckReads n σ) (TellsLater k) (λ ss n σ q. RefusalReads n σ q ss × Judged n σ q)
    _ _ _ _ _ ran c.in_err-log.ensures
    (λ ts e. log_cut n σ k ss ts a row e)
    (λ ts q f. let (s, e, (inside, at, later, before)) = f in
    subst (λ (q : ImageRefusal). RefusalReads n σ q (ss ++ ts) × Judged n σ q) (sym e) (
      log_behind ss ts row ∙ ap (λ (us : List ℕ). behind_log us []) at,
      (
        k,
        a,
        record {
          inside = inside;
          later = later.1;
          before = λ t i l z. let room = k.geometry.room in let same = a.valid.0.0 in before t i l (omega arith, z);
        },
      ),
    )) c.from_residual-in_err-log.ensures.1

pub returns : goal.returns
returns g c =
    let n = g.D.Device.count c.args.device.now in
    let σ = g.D.Device.current c.args.device.now in
    let (on, (ss, ran, (row, a))) = c.in_ok-headers.ensures in
    let k = header_of c.in_ok-headers.headers in
    let x = c.in_ok-log.log in
    let (lit, (us, went, y)) = c.in_ok-log.ensures in
    let z = carried g.D.Device (λ n σ. (log_header x ≡ k) × ((ws : List ℕ) × SomeOf log_sector k.geometry.log ws × (us ≡ each log_sector k.geometry.log ++ ws)
    × (IsHeaderOf n σ k → IsReadFrom n σ ws x))) ss _ _ ran y in
    let from = z.1.3 a in
    let whole : each log_sector k.geometry.log ≡ each log_sector x.header.geometry.log = ap (λ (h : Header). each log_sector h.geometry.log) (sym z.0) in
    let o : LogReads n σ x us = (z.1.0, from, z.1.2 ∙ ap (λ (ts : List ℕ). ts ++ z.1.0) whole) in
    let r = from.0 in
    finds_then g.D.Device _ (Just (twice (nth_body x) (page_count x))) (CheckReads n σ)
    (λ ss n σ y. (ss ≡ twice (nth_body x) (page_count x)) × (judged_log y ≡ x) × (IsReadOf n σ x → (H : Heap) × IsJudgedOf n σ H y))
    (λ ss n σ y. JudgedWhole n σ y ss × ((H : Heap) × IsJudgedOf n σ H y))
    (λ ss n σ q. JudgeEnds x ss q × (IsReadOf n σ x → Judged n σ q))
    (λ ss n σ q. RefusalReads n σ q ss × Judged n σ q) _ _ _ _ (read_then g.D.Device ss us _ _ _ ran went) c.judge.ensures
    (λ ts e. walk x [] (judged_whole n σ x ss us ts o row e))
    (λ ts y f. (subst (λ (v : LogRead). WalkReads n σ v [] ((ss ++ us) ++ ts)) (sym f.1) (judged_whole n σ x ss us ts o row f.0), f.2 r))
    (λ ts q f. (pages_refused n σ x ss us ts q o row f.0, f.1 r))
