-- The page that was judged is read again.
-- Assumes nothing.
use Rattle.std.proofs.Common.{[], ◌∷◌, refl, sym, subst}
use Rattle.std.proofs.lemmas.Bool.{both_ways}
use Rattle.layout.specs.declared.header.Header.{Header}
use Rattle.layout.specs.Geometries.{IsPage}
use Rattle.image.specs.Phases.{Just}
use Rattle.image.specs.Stages.{judged_log, body_sector, IsPageFault, FindsNoneShown, IsAnother}
use Rattle.image.proofs.Lookings.{fails_as}
use Rattle.image.proofs.Judging.{judged_inside, judged_again, another}
use Rattle.image.proofs.judged.PagesJudged.page.Goals as goal

pub returns-then-not-has_page-clause-inside : goal.returns-then-not-has_page-clause-inside
returns-then-not-has_page-clause-inside g c = λ i. absurd (both_ways c.has_page.result c.if-not-has_page.true
    (c.has_page.ensures.1 (subst (λ (k : Header). IsPage k.geometry c.args.sector) (sym c.header.ensures) i)))

pub returns-then-not-has_page-clause-pages : goal.returns-then-not-has_page-clause-pages
returns-then-not-has_page-clause-pages g c = λ n σ H j. judged_inside n σ c.args.self.now c.args.sector H j

pub returns-in_err-shown_page-clause-outside : goal.returns-in_err-shown_page-clause-outside
returns-in_err-shown_page-clause-outside g c = λ f. absurd (f (subst (λ (k : Header). IsPage k.geometry c.args.sector) c.header.ensures (c.has_page.ensures.0 c.if-not-has_page.false)))

pub returns-in_err-shown_page-clause-inside : goal.returns-in_err-shown_page-clause-inside
returns-in_err-shown_page-clause-inside g c = λ i.
    let y = c.args.self.now in
    let s = c.args.sector in
    let P = Just (body_sector (judged_log y) s ∷ []) in
    fails_as g.D.Device _ P P (λ ts n σ q. P ts × (IsPageFault s q × FindsNoneShown n σ (judged_log y) s)) (λ ts n σ q. P ts × (IsPageFault s q × IsAnother n σ y))
    _ _ _ _ c.in_err-shown_page.ensures (λ l. l)
    (λ ts q f. (f.0, (f.1.0, another (g.D.Device.count c.args.device.now) (g.D.Device.current c.args.device.now) y s i f.1.1)))
    c.from_residual.ensures.1

pub returns-in_err-shown_page-clause-pages : goal.returns-in_err-shown_page-clause-pages
returns-in_err-shown_page-clause-pages g c = λ n σ H j. judged_inside n σ c.args.self.now c.args.sector H j

pub returns-clause-outside : goal.returns-clause-outside
returns-clause-outside g c = λ f. absurd (f (subst (λ (k : Header). IsPage k.geometry c.args.sector) c.header.ensures (c.has_page.ensures.0 c.if-not-has_page.false)))

pub returns-clause-inside : goal.returns-clause-inside
returns-clause-inside g c = λ i.
    let (on, (ss, ran, (row, x))) = c.in_ok-shown_page.ensures in
    (on, (ss, ran, (row, (c.in_ok-shown_page.field-0, refl, x.0, judged_again (g.D.Device.count c.args.device.now) (g.D.Device.current c.args.device.now) c.args.self.now c.args.sector i _ x.1))))

pub returns-clause-pages : goal.returns-clause-pages
returns-clause-pages g c = λ n σ H j. judged_inside n σ c.args.self.now c.args.sector H j
