use Rattle.mum_cache.proofs.Others.{answers_where_it_stands_lem, routes_answer_where_they_stand_lem}
use Rattle.mum_cache.proofs.laws.answers_where_it_stands.Goals as goal

pub returns-clause-perms : goal.returns-clause-perms
returns-clause-perms c = answers_where_it_stands_lem

pub returns-clause-routes : goal.returns-clause-routes
returns-clause-routes c = routes_answer_where_they_stand_lem
