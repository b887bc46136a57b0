use Rattle.mum_serve_laws.proofs.Counting.{looks_counted}
use Rattle.mum_serve_laws.proofs.workers.looks_are_counted.Goals as goal

pub returns : goal.returns
returns g c opening number pass journal opened worker turns begun none all = looks_counted opening g.L.Link.facts number pass journal opened turns worker begun none all
