use Rattle.std.proofs.Common.{rules}
use Rattle.layout.proofs.Records.{commit_as_read, pages-commit_record_bytes}
use Rattle.layout.proofs.record.CommitRecord.decode.Goals as goal

pub returns-clause-only : goal.returns-clause-only
returns-clause-only c = λ e p n k small h.
    let m = commit_as_read e p n k _ h in
    let q = pages-commit_record_bytes e p n k small in
    search rules
