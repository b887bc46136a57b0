use Rattle.mum_exercise.proofs.Common.{arith}
use Rattle.mum_exercise.proofs.Rounds.{talks, enters, links, mutes, listens, aims}
use Rattle.mum_exercise.proofs.draws.Draws.act.Goals as goal

pub returns-in-0-to-9 : goal.returns-in-0-to-9
returns-in-0-to-9 c = talks c.args.case c.below-in-0-to-9.result c.args.self.now c.below-in-0-to-9.new.self (omega arith) c.below-in-0-to-9.ensures.drawn

pub returns-in-10 : goal.returns-in-10
returns-in-10 c = enters c.args.case c.channel-in-10.result c.args.self.now c.channel-in-10.new.self (omega arith) (omega arith) c.channel-in-10.ensures

pub returns-in-12 : goal.returns-in-12
returns-in-12 c = links c.args.case c.channel.result c.args.self.now c.channel.new.self c.in-12.is c.channel.ensures

pub returns-in-13 : goal.returns-in-13
returns-in-13 c = mutes c.args.case c.below.result c.args.self.now c.below.new.self c.in-13.is c.below.ensures.drawn

pub returns-in-14 : goal.returns-in-14
returns-in-14 c = listens c.args.case c.channel-in-14.result c.args.self.now c.channel-in-14.new.self c.in-14.is c.channel-in-14.ensures

pub returns-in_default : goal.returns-in_default
returns-in_default c = aims c.args.case c.channel-in_default.result c.args.self.now c.channel-in_default.new.self (omega arith) c.channel-in_default.ensures
