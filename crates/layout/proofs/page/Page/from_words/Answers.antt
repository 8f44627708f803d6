use Rattle.std.proofs.Common.{◌≡◌, Some, length, get_or, drop, ap, sym, ◌∙◌, rules, arith}
use Rattle.layout.specs.declared.page.Page.{Page}
use Rattle.layout.specs.Classes.{code_of}
use Rattle.layout.specs.Bodies.{marks, body_words}
use Rattle.layout.proofs.Marks.{marks_same}
use Rattle.layout.proofs.OneBody.{same_page, fit_in_page, split_two}
use Rattle.layout.proofs.page.Page.from_words.Goals as goal

pub returns-in_err-class-clause-only : goal.returns-in_err-class-clause-only
returns-in_err-class-clause-only c = λ p h e.
    let ten : length c.read_marks-code.result.0 ≡ 10 = search rules in
    let first = ap (λ ws. get_or ws 0 0) e in
    let same = marks_same p.used c.read_marks-code.result.0 (code_of p.class) c.read_marks-code.result.1
    (h.ten_marks ∙ sym ten) (first ∙ sym c.read_marks-code.ensures) in
    let only = c.from_code.ensures.only p.class same.1 in
    let none = c.in_err-class.was in
    cc

pub returns-in_err-words-clause-only : goal.returns-in_err-words-clause-only
returns-in_err-words-clause-only c = λ p h e.
    let only = c.read_words.ensures.only p.words (ap (λ ws. get_or ws 1 0) e) (ap (drop 2) e) in
    let none = c.in_err-words.was in
    cc

abbrev page : goal.In_ok-words → Page
page c = record { class = c.in_ok-class.class; used = c.read_marks-code.result.0; words = c.in_ok-words.words }

made : (c : goal.In_ok-words) → body_words (page c) ≡ c.args.words.now
made c =
    let first = ap (marks c.read_marks-code.result.0) c.in_ok-class.ensures.found ∙ c.read_marks-code.ensures in
    let rest = c.in_ok-words.ensures.found in
    let split = split_two c.args.words.now (omega arith) in
    cc (first, rest.0, rest.1, split)

pub returns-clause-found : goal.returns-clause-found
returns-clause-found c =
    let fit = fit_in_page (page c) (rw (sym (made c)) at c.fits-words) in
    (record { ten_marks = search rules; ten_words = search rules; fit = fit }, made c)

pub returns-clause-only : goal.returns-clause-only
returns-clause-only c = λ p h e.
    let ten : length c.read_marks-code.result.0 ≡ 10 = search rules in
    ap Some (same_page (page c) p (ten ∙ sym h.ten_marks) (made c ∙ sym e))
