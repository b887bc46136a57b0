use Rattle.mum_why.proofs.Common.{aimed}
use Rattle.mum_why.proofs.FirstWay.{item_here, item_next, item_none}
use Rattle.mum_why.proofs.ways.first_item.Goals as goal

pub returns-in-Some : goal.returns-in-Some
returns-in-Some g c =
    item_here c.args.case.now.state.now c.args.case.now.speaker.now.session c.args.case.now.hearer.now c.args.listens c.args.wanted c.args.items.now c.items.place c.index-items-place.result
    (aimed c.item-aim.result) c.channel_where.result c.in-Some.channel c.items-test.true c.index-items-place.is c.item-aim.ensures c.channel_where.ensures c.in-Some.is
    c.items.invariant

pub items-preserved : goal.items-preserved
items-preserved g c =
    item_next c.args.case.now.state.now c.args.case.now.speaker.now.session c.args.case.now.hearer.now c.args.listens c.args.wanted c.args.items.now c.items.place c.index-items-place.result
    (aimed c.item-aim.result) c.channel_where.result c.items-test.true c.index-items-place.is c.item-aim.ensures c.channel_where.ensures c.in_default.is
    c.items.invariant

pub returns : goal.returns
returns g c =
    item_none c.args.case.now.state.now c.args.case.now.speaker.now.session c.args.case.now.hearer.now c.args.listens c.args.wanted c.args.items.now c.items.place c.items-test.false c.items.invariant
