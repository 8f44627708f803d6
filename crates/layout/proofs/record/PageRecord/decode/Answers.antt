use Rattle.std.proofs.Common.{rules}
use Rattle.layout.proofs.Records.{page_as_read, home-page_record_bytes}
use Rattle.layout.proofs.record.PageRecord.decode.Goals as goal

pub returns-clause-only : goal.returns-clause-only
returns-clause-only c = λ e p s body small h.
    let m = page_as_read e p s body _ h in
    let n = home-page_record_bytes e p s body small in
    search rules
