use Rattle.mum_link.proofs.Common.{thread_at, worker_of}
use Rattle.mum_link.proofs.Dealing.{in_its_lane}
use Rattle.mum_link.proofs.laws.links_are_where_their_workers_are.Goals as goal

pub returns : goal.returns
returns c = λ shares connection lanes roles dealt. in_its_lane (thread_at shares.spread shares.workers) lanes roles (worker_of shares connection) dealt
