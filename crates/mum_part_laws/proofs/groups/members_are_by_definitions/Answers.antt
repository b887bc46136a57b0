use Rattle.mum_part_laws.proofs.GroupLaws.{guests_are_in_none_lem, members_are_by_definitions_lem}
use Rattle.mum_part_laws.proofs.groups.members_are_by_definitions.Goals as goal

pub returns-clause-members : goal.returns-clause-members
returns-clause-members c = members_are_by_definitions_lem

pub returns-clause-guests : goal.returns-clause-guests
returns-clause-guests c = guests_are_in_none_lem
