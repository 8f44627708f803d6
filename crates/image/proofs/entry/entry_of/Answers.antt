-- A record of the header's epoch and its own position is that entry, and all else ends the log.
-- Assumes nothing.
use Rattle.std.proofs.Common.{sym, inl, inr, rules}
use Rattle.image.specs.Reading.{no_record}
use Rattle.image.proofs.Entering.{page_entry, other_entry}
use Rattle.image.proofs.entry.entry_of.Goals as goal

pub returns-in-Page : goal.returns-in-Page
returns-in-Page c = let r = c.in-Page.ensures in
    λ σ x. page_entry σ c.args.header _ _ _ _ x _ _ c.if-page-header.true c.if-page-position.true r.0 r.1

pub returns-in_default : goal.returns-in_default
returns-in_default c = let r = c.in-Page.ensures in
    λ σ x. other_entry σ c.args.header _ _ _ _ x (search rules) (search rules) (inl (_, (_, sym r.1))) (inr c.if-page-position.false)

pub returns-in_default-2 : goal.returns-in_default-2
returns-in_default-2 c = let r = c.in-Page.ensures in
    λ σ x. other_entry σ c.args.header _ _ _ _ x (search rules) (search rules) (inl (_, (_, sym r.1))) (inl c.if-page-header.false)

pub returns-in_default-3 : goal.returns-in_default-3
returns-in_default-3 c = let r = c.in-Commit.ensures in
    λ σ x. other_entry σ c.args.header _ _ _ _ x (search rules) (search rules) (inr (_, (_, sym r.1))) (inr c.if-commit-position.false)

pub returns-in_default-4 : goal.returns-in_default-4
returns-in_default-4 c = let r = c.in-Commit.ensures in
    λ σ x. other_entry σ c.args.header _ _ _ _ x (search rules) (search rules) (inr (_, (_, sym r.1))) (inl c.if-commit-header.false)

pub returns-in_default-5 : goal.returns-in_default-5
returns-in_default-5 c = λ σ x ts t. no_record c.args.bytes.now x (rw c.in_default.is at c.read.ensures)
