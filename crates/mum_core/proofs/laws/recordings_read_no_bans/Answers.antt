use Rattle.mum_core.proofs.Common.{false≢true, kind_of, payload_of, sends, connection_at, machine_of}
use Rattle.mum_core.proofs.laws.recordings_read_no_bans.Goals as goal

pub returns : goal.returns
returns c = λ core number bytes payload is.
    false≢true (sends (machine_of number (connection_at core number)) (kind_of bytes) (payload_of bytes) payload is).may_send
