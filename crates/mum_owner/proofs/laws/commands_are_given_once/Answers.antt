use Rattle.mum_owner.proofs.Giving.{given_once, taken_once}
use Rattle.mum_owner.proofs.laws.commands_are_given_once.Goals as goal

pub returns-clause-taken : goal.returns-clause-taken
returns-clause-taken g c control door connections journal queues store opened owner turns new none all =
    taken_once g.D.Entrance.facts g.D.Peer.Link.facts opened owner turns none all

pub returns-clause-logins : goal.returns-clause-logins
returns-clause-logins g c control door connections journal queues store opened owner turns new all =
    let served = given_once g.D.Entrance.facts g.D.Peer.Link.facts control door connections journal queues store opened owner turns new all in
    served.logins

pub returns-clause-others : goal.returns-clause-others
returns-clause-others g c control door connections journal queues store opened owner turns new all =
    let served = given_once g.D.Entrance.facts g.D.Peer.Link.facts control door connections journal queues store opened owner turns new all in
    served.others

pub returns-clause-leaves : goal.returns-clause-leaves
returns-clause-leaves g c control door connections journal queues store opened owner turns new all =
    let served = given_once g.D.Entrance.facts g.D.Peer.Link.facts control door connections journal queues store opened owner turns new all in
    served.leaves
