use Rattle.mum_users.proofs.Common.{ap, ◌∙◌, list_any, is_of_channel}
use Rattle.mum_users.proofs.Pairs.{is_pair-of_session}
use Rattle.mum_users.proofs.listeners.Listeners.has.Goals as goal

pub returns : goal.returns
returns c = c.one_is_of.ensures ∙ ap (list_any (is_of_channel c.args.channel)) c.of_session.ensures ∙ is_pair-of_session c.args.session c.args.channel c.args.self.now
