use Rattle.mum_audit.proofs.Numbering.{each_line, first_named}
use Rattle.mum_audit.proofs.laws.first_wrong_line_is_named.Goals as goal

pub returns-clause-each : goal.returns-clause-each
returns-clause-each c journal = each_line journal

pub returns-clause-first : goal.returns-clause-first
returns-clause-first c journal line finding is = first_named journal line finding is
