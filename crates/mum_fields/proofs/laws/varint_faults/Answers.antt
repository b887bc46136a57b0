use Rattle.mum_fields.proofs.NoFields.{is_no_varint, no_varint-is}
use Rattle.mum_fields.proofs.laws.varint_faults.Goals as goal

pub returns : goal.returns
returns c = λ bytes kind. (is_no_varint bytes kind, no_varint-is bytes kind)
