use Rattle.std.proofs.Common.{sym, ◌∙◌, arith, rules}
use Rattle.layout.specs.Records.{page_record_bytes}
use Rattle.layout.proofs.Records.{one_page_record, page_is_no_commit}
use Rattle.layout.proofs.record.PageRecord.encode.Goals as goal

pub returns-clause-value : goal.returns-clause-value
unfolding page_record_bytes
returns-clause-value c = search rules

pub returns-clause-only : goal.returns-clause-only
returns-clause-only c = λ e p s body he hp hs h.
    one_page_record e p s _ _ _ body _ he hp hs (omega arith) (omega arith) (omega arith) (h ∙ returns-clause-value c)

pub returns-clause-no_commit : goal.returns-clause-no_commit
returns-clause-no_commit c = λ e p n k h.
    page_is_no_commit _ _ _ e p n k _ (sym (returns-clause-value c) ∙ sym h)
