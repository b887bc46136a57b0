use Rattle.mum_rights_laws.proofs.ChannelRequestLaws.{channels_are_made_as_asked_lem}
use Rattle.mum_rights_laws.proofs.channel_requests.channels_are_made_as_asked.Goals as goal

pub returns : goal.returns
returns c = channels_are_made_as_asked_lem
