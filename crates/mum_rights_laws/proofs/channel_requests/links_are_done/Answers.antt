use Rattle.mum_rights_laws.proofs.ContentLaws.{links_are_done_lem}
use Rattle.mum_rights_laws.proofs.channel_requests.links_are_done.Goals as goal

pub returns : goal.returns
returns c = links_are_done_lem
