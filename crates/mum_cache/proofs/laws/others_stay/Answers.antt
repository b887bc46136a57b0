use Rattle.mum_cache.proofs.Others.{other_perms_stay_lem, other_routes_stay_lem}
use Rattle.mum_cache.proofs.laws.others_stay.Goals as goal

pub returns-clause-perms : goal.returns-clause-perms
returns-clause-perms c = other_perms_stay_lem

pub returns-clause-routes : goal.returns-clause-routes
returns-clause-routes c = other_routes_stay_lem
