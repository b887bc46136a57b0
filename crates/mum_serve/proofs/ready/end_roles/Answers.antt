-- They are those that came back.
use Rattle.mum_serve.proofs.Readied.{back_keeper, back_roles, back_room, back_unused, has_room}
use Rattle.mum_serve.proofs.ready.end_roles.Goals as goal

pub apart-requires-clause-roles : goal.apart-requires-clause-roles
apart-requires-clause-roles g c = back_roles c.requires.1

pub apart-requires-clause-room : goal.apart-requires-clause-room
apart-requires-clause-room g c = back_room c.requires.0 _ _ c.args.reserved.workers c.requires.1 c.requires.2

pub collect-requires-clause-room : goal.collect-requires-clause-room
collect-requires-clause-room g c κs within = has_room c.requires.0 _ _ _ _ _ _ c.args.reserved.entries c.requires.1 c.apart.ensures c.requires.3

pub collect-requires-clause-view : goal.collect-requires-clause-view
collect-requires-clause-view g c κs within = back_unused c.requires.0 _ _ _ _ _ _ c.requires.1 c.apart.ensures

pub collect-requires-clause-keeper : goal.collect-requires-clause-keeper
collect-requires-clause-keeper g c κs within = back_keeper c.requires.0 _ _ _ _ _ _ c.requires.1 c.apart.ensures

pub returns : goal.returns
returns g c = record {
  owner = c.apart.result.owner;
  crew = c.apart.result.workers.items;
  viewer = c.apart.result.viewer;
  store = c.apart.result.store;
  are = c.apart.ensures;
  came = c.collect.ensures.came;
  views_came = c.collect.ensures.views_came;
  starved = c.collect.ensures.store_came.0;
  store_came = c.collect.ensures.store_came.1;
  memory = c.collect.ensures.store_came.2;
  failed = c.collect.ensures.failed;
  one_list = c.collect.ensures.one_list;
  views_of_it = c.collect.ensures.views_of_it;
  kept_of_it = c.collect.ensures.kept_of_it;
  clock_back = c.collect.ensures.clock;
}
