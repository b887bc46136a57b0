use Rattle.mum_rules_user.proofs.Common.{rules, payload_of}
use Rattle.mum_rules_user.proofs.heard.payload_length.Goals as goal

pub returns-in-Join : goal.returns-in-Join
unfolding payload_of
returns-in-Join c = search rules

pub returns-in-User : goal.returns-in-User
unfolding payload_of
returns-in-User c = search rules

pub returns-in-Kick : goal.returns-in-Kick
unfolding payload_of
returns-in-Kick c = search rules

pub returns-in-Text : goal.returns-in-Text
unfolding payload_of
returns-in-Text c = search rules

pub returns-in-Target : goal.returns-in-Target
unfolding payload_of
returns-in-Target c = search rules

pub returns-in-Query : goal.returns-in-Query
unfolding payload_of
returns-in-Query c = search rules

pub returns-in-Leave : goal.returns-in-Leave
unfolding payload_of
returns-in-Leave c = search rules
