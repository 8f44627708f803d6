use Rattle.std.proofs.Common.{rules}
use Rattle.layout.proofs.Homes.{sector-home_bytes, body-home_bytes}
use Rattle.layout.proofs.home.Home.decode.Goals as goal

pub returns-clause-only : goal.returns-clause-only
returns-clause-only c = λ s body small h.
    let m = sector-home_bytes s body small in
    let n = body-home_bytes s body in
    search rules
