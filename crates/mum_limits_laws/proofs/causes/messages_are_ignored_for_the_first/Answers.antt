use Rattle.mum_limits_laws.proofs.{HeardLaws.tree_messages_lem, HeardUserLaws.user_messages_lem}
use Rattle.mum_limits_laws.proofs.causes.messages_are_ignored_for_the_first.Goals as goal

pub returns-clause-channels : goal.returns-clause-channels
returns-clause-channels c = tree_messages_lem

pub returns-clause-users : goal.returns-clause-users
returns-clause-users c = user_messages_lem
