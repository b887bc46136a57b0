use Rattle.mum_serve_laws.proofs.Counting.{copies_are_refused, copies_are_sent}
use Rattle.mum_serve_laws.proofs.workers.copies_are_the_deliveries.Goals as goal

pub returns-clause-sent : goal.returns-clause-sent
returns-clause-sent g c opening opened worker turns unused all = copies_are_sent opening g.L.Link.facts opened turns worker unused all

pub returns-clause-full : goal.returns-clause-full
returns-clause-full g c opening opened worker turns unused all = copies_are_refused opening g.L.Link.facts opened turns worker unused all
