use Rattle.mum_state.proofs.Common.{reverse, ap, sym, ◌∙◌, ChannelId, upward_missing}
use Rattle.mum_state.proofs.who.home_of.Goals as goal

pub returns-in-None : goal.returns-in-None
returns-in-None c =
    c.new.ensures ∙ sym (ap (reverse {A = ChannelId}) (upward_missing c.args.tree.now.channels 33 c.args.user.now.channel c.in-None.ensures.value))
