use Rattle.mum_voice.proofs.Common.{ℕ, Some, sym, ap, ◌∙◌, arith, ◌-◌}
use Rattle.mum_voice.proofs.Rows.{row_28, row_32, row_64, three_more, four_more, eight_more}
use Rattle.mum_voice.proofs.varint.number_after.Goals as goal

pub returns-in-len3-up-clause-number : goal.returns-in-len3-up-clause-number
returns-in-len3-up-clause-number c =
    ap (λ (n : ℕ). Some (n, 4)) (omega (arith, c.from_be_bytes-in-224-to-239.ensures)) ∙ sym (row_28 c.args.first c.args.bytes.now (omega arith) (omega arith) ∙ three_more (c.args.first - 0xE0) c.args.bytes.now (omega arith))

pub returns-in-len4-up-clause-number : goal.returns-in-len4-up-clause-number
returns-in-len4-up-clause-number c =
    ap (λ (n : ℕ). Some (n, 5)) (omega (arith, c.from_be_bytes-in-240-to-243.ensures)) ∙ sym (row_32 c.args.first c.args.bytes.now (omega arith) (omega arith) ∙ four_more c.args.bytes.now (omega arith))

pub returns-in-len8-up-clause-number : goal.returns-in-len8-up-clause-number
returns-in-len8-up-clause-number c =
    ap (λ (n : ℕ). Some (n, 9)) (omega (arith, c.from_be_bytes-in-244-to-247.ensures)) ∙ sym (row_64 c.args.first c.args.bytes.now (omega arith) (omega arith) ∙ eight_more c.args.bytes.now (omega arith))
