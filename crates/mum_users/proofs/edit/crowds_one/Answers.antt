use Rattle.mum_users.proofs.Common.{◌∙◌}
use Rattle.mum_users.proofs.Edits.{crowded_same}
use Rattle.mum_users.proofs.edit.crowds_one.Goals as goal

pub returns : goal.returns
returns c = c.one_crowds.ensures ∙ crowded_same c.args.session c.args.change.now.unlisten.now c.args.change.now.listen.now c.args.listeners.now c.requires.rise c.requires.few
