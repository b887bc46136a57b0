use Rattle.mum_audit.proofs.Auditable.{auditable}
use Rattle.mum_audit.proofs.laws.read_journals_are_auditable.Goals as goal

pub returns : goal.returns
returns c text journal is faultless = auditable text journal is faultless
