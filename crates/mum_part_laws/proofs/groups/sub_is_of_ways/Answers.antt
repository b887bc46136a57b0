use Rattle.mum_part_laws.proofs.SubLaws.{sub_is_else_of_nobody_lem, sub_is_of_ways_lem}
use Rattle.mum_part_laws.proofs.groups.sub_is_of_ways.Goals as goal

pub returns-clause-ways : goal.returns-clause-ways
returns-clause-ways c = sub_is_of_ways_lem

pub returns-clause-nobody : goal.returns-clause-nobody
returns-clause-nobody c = sub_is_else_of_nobody_lem
