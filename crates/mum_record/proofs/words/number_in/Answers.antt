use Rattle.mum_record.proofs.Common.{◌∙◌, iff_false}
use Rattle.mum_record.proofs.Numbers.{revision_of-parsed, revision_of-other}
use Rattle.mum_record.proofs.words.number_in.Goals as goal

pub returns-then-not-begins_plainly : goal.returns-then-not-begins_plainly
returns-then-not-begins_plainly c =
    revision_of-other c.args.word.now (rw c.as_bytes.ensures.value at (iff_false c.begins_plainly.ensures c.if-not-begins_plainly.true))

pub returns : goal.returns
returns c =
    let plain = rw c.as_bytes.ensures.value at (c.begins_plainly.ensures.0 c.if-not-begins_plainly.false) in
    c.ok.ensures.value ∙ revision_of-parsed c.args.word.now c.parse.result c.parse.ensures.value.0 plain
