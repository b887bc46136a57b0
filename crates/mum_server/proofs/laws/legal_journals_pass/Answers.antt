use Rattle.mum_server.proofs.Passes.{passes}
use Rattle.mum_server.proofs.laws.legal_journals_pass.Goals as goal

pub returns : goal.returns
returns c = passes
