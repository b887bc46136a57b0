use Rattle.mum_notify.proofs.Common.{◌∙◌}
use Rattle.mum_notify.proofs.Reached.{reached_alike}
use Rattle.mum_notify.proofs.texts.is_for.Goals as goal

pub returns : goal.returns
returns c =
    c.is_reached.ensures ∙ reached_alike c.args.state.now c.args.text.now.actor c.args.text.now.sessions.now c.args.text.now.channels.now c.args.text.now.trees.now c.args.named.now c.args.user.now c.requires
