use Rattle.mum_limits_laws.proofs.WithinLaws.{tree_commands_keep_within_lem, user_commands_keep_within_lem, valid_states_are_within_lem}
use Rattle.mum_limits_laws.proofs.limits.states_are_within_limits.Goals as goal

pub returns-clause-valid : goal.returns-clause-valid
returns-clause-valid c = valid_states_are_within_lem

pub returns-clause-channels : goal.returns-clause-channels
returns-clause-channels c = tree_commands_keep_within_lem

pub returns-clause-users : goal.returns-clause-users
returns-clause-users c = user_commands_keep_within_lem
