use Rattle.mum_owner.proofs.Common.{rules}
use Rattle.mum_rules_tree.specs.Asked as channels
use Rattle.mum_rules_user.specs.Asked as users
use Rattle.mum_owner.proofs.entry.own_frame.Goals as goal

pub returns-in-Tree-State-clause-frame : goal.returns-in-Tree-State-clause-frame
unfolding channels.payload_of
returns-in-Tree-State-clause-frame c = search rules

pub returns-in-Tree-Remove-clause-frame : goal.returns-in-Tree-Remove-clause-frame
unfolding channels.payload_of
returns-in-Tree-Remove-clause-frame c = search rules

pub returns-in-Tree-Acl-clause-frame : goal.returns-in-Tree-Acl-clause-frame
unfolding channels.payload_of
returns-in-Tree-Acl-clause-frame c = search rules

pub returns-in-User-Join-clause-frame : goal.returns-in-User-Join-clause-frame
unfolding users.payload_of
returns-in-User-Join-clause-frame c = search rules

pub returns-in-User-User-clause-frame : goal.returns-in-User-User-clause-frame
unfolding users.payload_of
returns-in-User-User-clause-frame c = search rules

pub returns-in-User-Kick-clause-frame : goal.returns-in-User-Kick-clause-frame
unfolding users.payload_of
returns-in-User-Kick-clause-frame c = search rules

pub returns-in-User-Text-clause-frame : goal.returns-in-User-Text-clause-frame
unfolding users.payload_of
returns-in-User-Text-clause-frame c = search rules

pub returns-in-User-Target-clause-frame : goal.returns-in-User-Target-clause-frame
unfolding users.payload_of
returns-in-User-Target-clause-frame c = search rules

pub returns-in-User-Query-clause-frame : goal.returns-in-User-Query-clause-frame
unfolding users.payload_of
returns-in-User-Query-clause-frame c = search rules
