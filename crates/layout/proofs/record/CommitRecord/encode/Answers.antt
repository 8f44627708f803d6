use Rattle.std.proofs.Common.{◌∙◌, arith, rules}
use Rattle.layout.specs.Records.{commit_record_bytes}
use Rattle.layout.proofs.Records.{one_commit_record, page_is_no_commit}
use Rattle.layout.proofs.record.CommitRecord.encode.Goals as goal

pub returns-clause-value : goal.returns-clause-value
unfolding commit_record_bytes
returns-clause-value c = search rules

pub returns-clause-only : goal.returns-clause-only
returns-clause-only c = λ e p n k he hp hn hk h.
    one_commit_record e p n k _ _ _ _ he hp hn hk (omega arith) (omega arith) (omega arith) (omega arith) (h ∙ returns-clause-value c)

pub returns-clause-no_page : goal.returns-clause-no_page
returns-clause-no_page c = λ e p s body h. page_is_no_commit e p s _ _ _ _ body (h ∙ returns-clause-value c)
