use Rattle.mum_rules_tree.proofs.Common.{sym, actor_of}
use Rattle.mum_rules_tree.proofs.Found.{met_at, met_more, met_open, open_met, place_within, placed_in}
use Rattle.mum_rules_tree.proofs.met.need_once.Goals as goal

pub bounds-met-place : goal.bounds-met-place
bounds-met-place c =
    let told = placed_in c.args.state.now c.tree.result.now c.args.channel c.place.result c.in-Some.place c.tree.ensures.tree c.place.ensures c.in-Some.is in
    place_within c.args.state.now c.args.channel c.in-Some.place c.tree.ensures.proper told

pub returns-then-met-place-clause-value : goal.returns-then-met-place-clause-value
returns-then-met-place-clause-value c =
    let told = placed_in c.args.state.now c.tree.result.now c.args.channel c.place.result c.in-Some.place c.tree.ensures.tree c.place.ensures c.in-Some.is in
    let who = actor_of c.args.who.now in
    sym (open_met c.args.state.now who c.args.perm c.args.channel (met_at c.args.state.now who c.args.perm c.args.met.now.marks c.args.channel c.in-Some.place told c.requires c.if-met-place.true))

pub bounds-met-place-2 : goal.bounds-met-place-2
bounds-met-place-2 c =
    let told = placed_in c.args.state.now c.tree.result.now c.args.channel c.place.result c.in-Some.place c.tree.ensures.tree c.place.ensures c.in-Some.is in
    place_within c.args.state.now c.args.channel c.in-Some.place c.tree.ensures.proper told

pub returns-clause-kept : goal.returns-clause-kept
returns-clause-kept c =
    let told = placed_in c.args.state.now c.tree.result.now c.args.channel c.place.result c.in-Some.place c.tree.ensures.tree c.place.ensures c.in-Some.is in
    let who = actor_of c.args.who.now in
    let open_there = met_open c.args.state.now who c.args.perm c.args.channel (sym c.in_ok-need.ensures) in
    met_more c.args.state.now who c.args.perm c.args.met.now.marks c.args.channel c.in-Some.place c.tree.ensures.proper told open_there c.requires
