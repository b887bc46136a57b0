use Rattle.mum_fields.proofs.Payloads.{fields-written}
use Rattle.mum_fields.proofs.laws.written_is_read.Goals as goal

pub returns : goal.returns
returns c = fields-written
