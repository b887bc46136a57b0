use Rattle.mum_port.proofs.Lifelong.{conserved, end_has_all, front_of}
use Rattle.mum_port.proofs.laws.frames_are_handled_in_order.Goals as goal

pub returns-clause-conserved : goal.returns-clause-conserved
returns-clause-conserved g c connection worker link events port lives = conserved g.L.Link.facts g.V.VoiceRouter.routed connection worker link events port lives

pub returns-clause-front : goal.returns-clause-front
returns-clause-front g c connection worker link events port frames rest lives splits =
    front_of g.L.Link.facts g.V.VoiceRouter.routed connection worker link events port frames rest lives splits

pub returns-clause-at_end : goal.returns-clause-at_end
returns-clause-at_end g c connection worker link events port last machine did lives steps ends =
    end_has_all g.L.Link.facts g.V.VoiceRouter.routed connection worker link events port last machine did lives steps ends
