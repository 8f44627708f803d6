-- The body stands in the last record, or else in the home.
-- Assumes nothing.
use Rattle.std.proofs.Common.{◌≡◌, ℕ, ◌+◌, ◌<◌, Some, None, Option, [], ◌∷◌, drop, ap, sym, ◌∙◌}
use Rattle.device.specs.Sector.{payload}
use Rattle.layout.specs.Homes.{home_bytes}
use Rattle.image.specs.Phases.{Just}
use Rattle.image.specs.Stages.{sector_for, body_sector, IsBodyRead, IsPageFault, FindsBody, FindsNoBody, NoHome}
use Rattle.image.proofs.Lookings.{fails_off, finds_or, finds_less, off_less}
use Rattle.image.proofs.Bodied.{record_is, covered_finds, home_finds, no_home_finds}
use Rattle.image.proofs.pages.page_bytes.Goals as goal

pub returns-in_err-bytes-in-Some : goal.returns-in_err-bytes-in-Some
returns-in_err-bytes-in-Some g c =
    let x = c.args.log.now in
    let s = c.args.sector in
    let p = c.in-Some.position in
    let z : body_sector x s ∷ [] ≡ (2 + p) ∷ [] = ap (λ (o : Option ℕ). sector_for s o ∷ []) (record_is x s (Some p) c.in-Some.ensures) in
    fails_off g.D.Device _ (Just (body_sector x s ∷ [])) (λ ts n σ q. (ts ≡ body_sector x s ∷ []) × (IsPageFault s q × FindsNoBody n σ x s q)) _ _ _
    (off_less g.D.Device (Just ((2 + p) ∷ [])) (Just (body_sector x s ∷ [])) _ _ c.in_err-bytes-in-Some.ensures (λ ts e. e ∙ sym z)) c.from_residual.ensures.1

pub returns-in_ok-bytes-in-Some : goal.returns-in_ok-bytes-in-Some
returns-in_ok-bytes-in-Some g c =
    let m = c.args.device.now in
    let x = c.args.log.now in
    let s = c.args.sector in
    let p = c.in-Some.position in
    let z : body_sector x s ∷ [] ≡ (2 + p) ∷ [] = ap (λ (o : Option ℕ). sector_for s o ∷ []) (record_is x s (Some p) c.in-Some.ensures) in
    let (on, (ss, ran, (row, y))) = c.in_ok-bytes-in-Some.ensures in
    finds_or g.D.Device (Just (body_sector x s ∷ [])) (λ n σ b. IsBodyRead σ x s b × FindsBody n σ x s (drop 12 b)) (λ n σ q. IsPageFault s q × FindsNoBody n σ x s q)
    _ _ _ _ _ c.ok_or.ensures.value on (ss, ran, row ∙ sym z) (covered_finds (g.D.Device.count m) (g.D.Device.current m) x s p _ c.in-Some.ensures y)

pub returns-in-None : goal.returns-in-None
returns-in-None g c =
    let m = c.args.device.now in
    let x = c.args.log.now in
    let s = c.args.sector in
    let z : body_sector x s ∷ [] ≡ s ∷ [] = ap (λ (o : Option ℕ). sector_for s o ∷ []) (record_is x s None c.in-None.ensures) in
    finds_less g.D.Device (Just (s ∷ [])) (Just (body_sector x s ∷ []))
    (λ n σ b. (σ s ≡ payload b) × (home_bytes s (drop 12 b) ≡ b)) (λ n σ b. IsBodyRead σ x s b × FindsBody n σ x s (drop 12 b))
    (λ n σ q. IsPageFault s q × (s < n → NoHome σ s q)) (λ n σ q. IsPageFault s q × FindsNoBody n σ x s q) _ _ _ c.home_at.ensures
    (λ ts e. e ∙ sym z)
    (λ b y. home_finds (g.D.Device.count m) (g.D.Device.current m) x s b c.in-None.ensures y)
    (λ q y. (y.0, no_home_finds (g.D.Device.count m) (g.D.Device.current m) x s q c.in-None.ensures y.1))
