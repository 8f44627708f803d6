use Rattle.std.proofs.Common.{◌*◌, ◌≤◌, length, rules, arith}
use Rattle.std.proofs.lemmas.List.{take_all}
use Rattle.layout.proofs.Bytes.{read_more}
use Rattle.layout.proofs.body.words_of.Goals as goal

pub loop-at-preserved : goal.loop-at-preserved
loop-at-preserved c = record {
  all = search rules;
  read = read_more c.args.bytes.now c.loop-at.words c.loop-at.at c.from_le_bytes.result (omega arith) (omega arith)
      c.fits-bytes c.from_le_bytes.ensures c.loop-at.invariant.read;
}

pub returns : goal.returns
returns c =
    let words : length c.loop-at.words ≤ c.loop-at.at = omega arith in
    let bytes : length c.args.bytes.now ≤ 4 * c.loop-at.at = omega arith in
    rw (take_all, take_all) at c.loop-at.invariant.read
