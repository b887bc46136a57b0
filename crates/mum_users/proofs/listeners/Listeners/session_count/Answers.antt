use Rattle.mum_users.proofs.Common.{length, ap, ◌∙◌, length-filter, is_of_channel}
use Rattle.mum_users.proofs.listeners.Listeners.session_count.Goals as goal

pub returns : goal.returns
returns c = ap length c.of_channel.ensures ∙ length-filter (is_of_channel c.args.channel) c.args.self.now
