use Rattle.mum_route.proofs.Common.{◌<◌, length, arith}
use Rattle.mum_route.proofs.Known.{known_at, known_set, place_within, placed_in}
use Rattle.mum_route.proofs.cover.has_right.Goals as goal

pub bounds : goal.bounds
bounds g c =
    let found = placed_in c.args.state.now c.tree.result.now c.args.channel c.place.result c.in-Some.place c.tree.ensures.tree c.place.ensures c.in-Some.is in
    let within = place_within c.args.state.now c.args.channel c.in-Some.place c.tree.ensures.proper found in
    omega (arith, c.requires.room)

pub returns-in-Some-known-clause-value : goal.returns-in-Some-known-clause-value
returns-in-Some-known-clause-value g c =
    let found = placed_in c.args.state.now c.tree.result.now c.args.channel c.place.result c.in-Some.place c.tree.ensures.tree c.place.ensures c.in-Some.is in
    known_at c.args.state.now c.args.speaker c.args.perm c.args.known.now c.args.channel c.in-Some.place c.in-Some-known.answer found c.requires.right c.in-Some-known.is

pub bounds-known-place-2 : goal.bounds-known-place-2
bounds-known-place-2 g c =
    let found = placed_in c.args.state.now c.tree.result.now c.args.channel c.place.result c.in-Some.place c.tree.ensures.tree c.place.ensures c.in-Some.is in
    let within = place_within c.args.state.now c.args.channel c.in-Some.place c.tree.ensures.proper found in
    omega (arith, c.requires.room)

pub returns-clause-kept : goal.returns-clause-kept
returns-clause-kept g c =
    let found = placed_in c.args.state.now c.tree.result.now c.args.channel c.place.result c.in-Some.place c.tree.ensures.tree c.place.ensures c.in-Some.is in
    let within = place_within c.args.state.now c.args.channel c.in-Some.place c.tree.ensures.proper found in
    let inside : c.in-Some.place < length c.args.known.now = omega (arith, c.requires.room) in
    known_set c.args.state.now c.args.speaker c.args.perm c.args.known.now c.args.channel c.in-Some.place c.may-answer.result c.tree.ensures.proper found inside c.may-answer.ensures.value c.requires.right
