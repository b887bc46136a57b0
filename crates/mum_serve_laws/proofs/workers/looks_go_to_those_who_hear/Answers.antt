use Rattle.mum_serve_laws.proofs.Counting.{go_to_hearers}
use Rattle.mum_serve_laws.proofs.workers.looks_go_to_those_who_hear.Goals as goal

pub returns : goal.returns
returns g c opening old worker turns all = go_to_hearers opening g.L.Link.facts old turns worker all
