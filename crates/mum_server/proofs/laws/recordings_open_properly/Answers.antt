use Rattle.mum_server.proofs.Openings.{opens_properly}
use Rattle.mum_server.proofs.laws.recordings_open_properly.Goals as goal

pub returns : goal.returns
returns c = opens_properly
