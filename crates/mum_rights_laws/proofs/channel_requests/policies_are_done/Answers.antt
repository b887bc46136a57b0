use Rattle.mum_rights_laws.proofs.ContentLaws.{policies_are_done_lem}
use Rattle.mum_rights_laws.proofs.channel_requests.policies_are_done.Goals as goal

pub returns : goal.returns
returns c = policies_are_done_lem
