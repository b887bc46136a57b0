use Rattle.mum_rights_laws.proofs.ChannelRequestLaws.{channel_states_are_done_lem, other_channels_stand_lem}
use Rattle.mum_rights_laws.proofs.channel_requests.channel_states_are_done.Goals as goal

pub returns-clause-done : goal.returns-clause-done
returns-clause-done c = channel_states_are_done_lem

pub returns-clause-others : goal.returns-clause-others
returns-clause-others c = other_channels_stand_lem
