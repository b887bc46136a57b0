use Rattle.mum_rules_tree.proofs.Common.{rules, payload_of}
use Rattle.mum_rules_tree.proofs.decide.payload_length.Goals as goal

pub returns-in-State : goal.returns-in-State
unfolding payload_of
returns-in-State c = search rules

pub returns-in-Remove : goal.returns-in-Remove
unfolding payload_of
returns-in-Remove c = search rules

pub returns-in-Acl : goal.returns-in-Acl
unfolding payload_of
returns-in-Acl c = search rules
