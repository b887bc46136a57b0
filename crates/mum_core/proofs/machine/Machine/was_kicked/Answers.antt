use Rattle.mum_core.proofs.Common.{◌∙◌, rules, list_any-reverse, kicks}
use Rattle.mum_core.proofs.machine.Machine.was_kicked.Goals as goal

pub returns : goal.returns
returns c = c.one_kicks.ensures ∙ list_any-reverse (kicks c.args.session) c.accepted.result.now ∙ search rules
