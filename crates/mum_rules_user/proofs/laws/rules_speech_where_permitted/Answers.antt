use Rattle.mum_rules_user.proofs.Access.{rules_speech_where_permitted_lem}
use Rattle.mum_rules_user.proofs.laws.rules_speech_where_permitted.Goals as goal

pub returns : goal.returns
returns c = rules_speech_where_permitted_lem
