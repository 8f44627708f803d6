use Rattle.std.proofs.Common.{◌+◌, ◌-◌, ◌*◌, ◌≤◌, length, ◌∙◌, ap, rules, arith}
use Rattle.std.proofs.lemmas.List.{take_all}
use Rattle.std.proofs.lemmas.Slice.{take-put_mid, overwrites}
use Rattle.layout.proofs.Bytes.{fours-take_more}
use Rattle.layout.proofs.body.bytes_of.Goals as goal

pub loop-at-preserved : goal.loop-at-preserved
loop-at-preserved c =
    let word = c.copy_from_slice.ensures.after ∙ c.to_le_bytes.ensures in
    let more = fours-take_more c.args.words.now c.loop-at.at (omega arith) in
    let i = 4 * c.loop-at.at in
    let put = take-put_mid i (i + 4 - i) c.loop-at.bytes c.copy_from_slice.new.self (4 * (c.loop-at.at + 1))
    (omega (arith, ap length word)) (omega arith) in
    record { all = search (rules, overwrites); written = cc }

pub returns-clause-bytes : goal.returns-clause-bytes
returns-clause-bytes c =
    let bytes : length c.loop-at.bytes ≤ 4 * c.loop-at.at = omega arith in
    let words : length c.args.words.now ≤ c.loop-at.at = omega arith in
    rw (take_all, take_all) at c.loop-at.invariant.written
