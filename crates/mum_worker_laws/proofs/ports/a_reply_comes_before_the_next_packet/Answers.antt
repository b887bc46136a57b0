use Rattle.mum_worker_laws.proofs.Waiting.{command_awaits, no_packet}
use Rattle.mum_worker_laws.proofs.ports.a_reply_comes_before_the_next_packet.Goals as goal

pub returns-clause-awaits : goal.returns-clause-awaits
returns-clause-awaits g c opening old new machine did item steps asked =
    command_awaits g.L.Link.facts opening old new machine did item steps asked

pub returns-clause-packets : goal.returns-clause-packets
returns-clause-packets g c opening old worker turns connection all awaits spared others =
    no_packet opening connection g.L.Link.facts old turns worker all awaits spared others
