-- Each turn asks the words of one page more.
-- Assumes nothing.
use Rattle.std.proofs.Common.{◌≡◌, ◌∙◌, ◌+◌, ◌-◌, ℕ, ap, sym, subst, refl, arith}
use Rattle.device.specs.Calling.{reads, each, Ran}
use Rattle.layout.specs.declared.header.Header.{Header}
use Rattle.layout.specs.Geometries.{root_of}
use Rattle.image.specs.Heaps.{Heap}
use Rattle.image.specs.Images.{Shows}
use Rattle.image.specs.Stages.{IsReadOf, FindsShown, FindsNoneShown, IsPageFault, EndsAtFault, nth_body, page_count, bodies_to, body_sector}
use Rattle.image.proofs.Lookings.{ran_more, carried, fails_in_row}
use Rattle.image.proofs.Judging.{none_yet, none_more, first_found, none_at_all}
use Rattle.image.proofs.judged.first_dangling.Goals as goal

pub loop-sector-init : goal.loop-sector-init
loop-sector-init g c =
    let x = c.args.log.now in
    let root : c.root-sector.result ≡ root_of x.header.geometry = c.root-sector.ensures ∙ ap (λ (h : Header). root_of h.geometry) c.header.ensures in
    let none : c.root-sector.result - root_of x.header.geometry ≡ 0 = omega arith in
    record {
      ran = subst (λ (k : ℕ). Ran g.D.Device (reads (each (nth_body x) k)) c.args.device.now c.args.device.now) (sym none) refl;
      on = λ l. absurd (omega arith);
      none = λ r. none_yet _ _ x r c.args.tally.now _ root;
    }

pub loop-sector-preserved : goal.loop-sector-preserved
loop-sector-preserved g c =
    let inv = c.loop-sector.invariant in
    let x = c.args.log.now in
    let s = c.loop-sector.sector in
    let root : c.root-sector.result ≡ root_of x.header.geometry = c.root-sector.ensures ∙ ap (λ (h : Header). root_of h.geometry) c.header.ensures in
    let end : c.header.result.geometry.sectors ≡ x.header.geometry.sectors = ap (λ (h : Header). h.geometry.sectors) c.header.ensures in
    let (on, (ss, ran, (row, y))) = c.in_ok-page.ensures in
    let t = carried g.D.Device (λ n σ. FindsShown n σ x s c.in_ok-page.page) _ _ _ inv.ran y.1 in
    let k = s - root_of x.header.geometry in
    let here : root_of x.header.geometry + k ≡ s = omega arith in
    record {
      ran = ran_more g.D.Device (nth_body x) k (s + 1 - root_of x.header.geometry) (body_sector x s) _ _ _ ss inv.ran ran row (ap (body_sector x) (sym here)) (omega arith);
      on = λ _. on;
      none = λ r.
          none_more _ _ x r c.args.tally.now s c.in_ok-page.page (omega arith, omega arith) t (λ H y. rw c.in_default.is at (c.dangling_word.ensures.first H y)) (inv.none r);
    }

pub returns-in-Some : goal.returns-in-Some
returns-in-Some g c =
    let inv = c.loop-sector.invariant in
    let x = c.args.log.now in
    let s = c.loop-sector.sector in
    let root : c.root-sector.result ≡ root_of x.header.geometry = c.root-sector.ensures ∙ ap (λ (h : Header). root_of h.geometry) c.header.ensures in
    let end : c.header.result.geometry.sectors ≡ x.header.geometry.sectors = ap (λ (h : Header). h.geometry.sectors) c.header.ensures in
    let (on, (ss, ran, (row, y))) = c.in_ok-page.ensures in
    let t = carried g.D.Device (λ n σ. FindsShown n σ x s c.in_ok-page.page) _ _ _ inv.ran y.1 in
    let k = s - root_of x.header.geometry in
    let here : root_of x.header.geometry + k ≡ s = omega arith in (
      on,
      (
        bodies_to x s,
        ran_more g.D.Device (nth_body x) k (s + 1 - root_of x.header.geometry) (body_sector x s) _ _ _ ss inv.ran ran row (ap (body_sector x) (sym here)) (omega arith),
        (
          ((omega arith, omega arith), rw c.in-Some.is at c.dangling_word.ensures.inside, refl),
          λ r H a y. first_found _ _ x r c.args.tally.now s c.in-Some.word c.in_ok-page.page (omega arith, omega arith) t
              (λ H y. rw c.in-Some.is at (c.dangling_word.ensures.first H y)) (inv.none r) H a y,
        ),
      ),
    )

pub returns-in_err-page : goal.returns-in_err-page
returns-in_err-page g c =
    let inv = c.loop-sector.invariant in
    let x = c.args.log.now in
    let s = c.loop-sector.sector in
    let root : c.root-sector.result ≡ root_of x.header.geometry = c.root-sector.ensures ∙ ap (λ (h : Header). root_of h.geometry) c.header.ensures in
    let end : c.header.result.geometry.sectors ≡ x.header.geometry.sectors = ap (λ (h : Header). h.geometry.sectors) c.header.ensures in
    let k = s - root_of x.header.geometry in
    let here : root_of x.header.geometry + k ≡ s = omega arith in
    let more : k + 1 ≡ s + 1 - root_of x.header.geometry = omega arith in
    fails_in_row g.D.Device _ (nth_body x) k (page_count x) (body_sector x s) (λ n σ q. IsPageFault s q × FindsNoneShown n σ x s)
    (λ ss n σ q. EndsAtFault x ss q × (IsReadOf n σ x → (H : Heap) → Shows n σ H → ⊥)) _ _ _ _ _ inv.ran c.in_err-page.ensures (ap (body_sector x) (sym here)) (omega arith)
    (λ q f. ((s, (omega arith, omega arith), f.0, ap (each (nth_body x)) more), λ r H a. f.1 r (omega arith, omega arith) H a))
    c.from_residual.ensures.1

pub returns : goal.returns
returns g c =
    let inv = c.loop-sector.invariant in
    let x = c.args.log.now in
    let s = c.loop-sector.sector in
    let root : c.root-sector.result ≡ root_of x.header.geometry = c.root-sector.ensures ∙ ap (λ (h : Header). root_of h.geometry) c.header.ensures in
    let end : c.header.result.geometry.sectors ≡ x.header.geometry.sectors = ap (λ (h : Header). h.geometry.sectors) c.header.ensures in
    let room = x.header.geometry.room in
    let all : s - root_of x.header.geometry ≡ page_count x = omega arith in
    (inv.on (omega arith), (_, inv.ran, (ap (each (nth_body x)) all, λ r H a y. none_at_all _ _ x r c.args.tally.now _ (omega arith) (inv.none r) H a y)))
