use Rattle.mum_limits_laws.proofs.FullLaws.{channels_too_many_lem, listeners_too_many_lem, policies_too_large_lem, sixty_fifth_links_lem, targets_too_large_lem}
use Rattle.mum_limits_laws.proofs.limits.no_more_is_let_in.Goals as goal

pub returns-clause-links : goal.returns-clause-links
returns-clause-links c = sixty_fifth_links_lem

pub returns-clause-channels : goal.returns-clause-channels
returns-clause-channels c = channels_too_many_lem

pub returns-clause-policies : goal.returns-clause-policies
returns-clause-policies c = policies_too_large_lem

pub returns-clause-targets : goal.returns-clause-targets
returns-clause-targets c = targets_too_large_lem

pub returns-clause-listeners : goal.returns-clause-listeners
returns-clause-listeners c = listeners_too_many_lem
