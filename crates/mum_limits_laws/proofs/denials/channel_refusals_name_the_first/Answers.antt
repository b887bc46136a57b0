use Rattle.mum_limits_laws.proofs.RefusalLaws.{changes_lem, new_channels_lem, policies_lem, removals_lem}
use Rattle.mum_limits_laws.proofs.denials.channel_refusals_name_the_first.Goals as goal

pub returns-clause-made : goal.returns-clause-made
returns-clause-made c = new_channels_lem

pub returns-clause-changed : goal.returns-clause-changed
returns-clause-changed c = changes_lem

pub returns-clause-removed : goal.returns-clause-removed
returns-clause-removed c = removals_lem

pub returns-clause-policies : goal.returns-clause-policies
returns-clause-policies c = policies_lem
