use Rattle.mum_record.proofs.Common.{◌∙◌, sym}
use Rattle.mum_record.proofs.Frames.{tested-digits, tested-other}
use Rattle.mum_record.proofs.read.is_frame.Goals as goal

pub returns-then-are_lower_digits : goal.returns-then-are_lower_digits
returns-then-are_lower_digits c =
    tested-digits c.args.word.now c.has_named_length.result (sym c.are_lower_digits.ensures ∙ c.if-are_lower_digits.true) c.has_named_length.ensures.pairs c.has_named_length.ensures.named

pub returns-else-are_lower_digits : goal.returns-else-are_lower_digits
returns-else-are_lower_digits c =
    c.if-are_lower_digits.false ∙ tested-other c.args.word.now (sym c.are_lower_digits.ensures ∙ c.if-are_lower_digits.false)
