use Rattle.mum_why.proofs.Common.{Some, None, aimed}
use Rattle.mum_why.proofs.FirstWay.{talk_way}
use Rattle.mum_why.proofs.ways.first_way.Goals as goal

pub returns-in-Some : goal.returns-in-Some
returns-in-Some g c =
    talk_way c.args.case.now.state.now c.args.case.now.speaker.now c.args.case.now.target c.args.case.now.hearer.now c.args.listens c.args.wanted (aimed c.talk-aim.result) c.channel_where.result (Some c.in-Some.channel)
    c.if-case-ne-TALK.false c.talk-aim.ensures c.channel_where.ensures c.in-Some.is

pub returns-in-None : goal.returns-in-None
returns-in-None g c =
    talk_way c.args.case.now.state.now c.args.case.now.speaker.now c.args.case.now.target c.args.case.now.hearer.now c.args.listens c.args.wanted (aimed c.talk-aim.result) c.channel_where.result None
    c.if-case-ne-TALK.false c.talk-aim.ensures c.channel_where.ensures c.in-None.is
