use Rattle.mum_users.proofs.Common.{length, ap, ◌∙◌, length-filter, is_of_session}
use Rattle.mum_users.proofs.listeners.Listeners.channel_count.Goals as goal

pub returns : goal.returns
returns c = ap length c.of_session.ensures ∙ length-filter (is_of_session c.args.session) c.args.self.now
