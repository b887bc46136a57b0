use Rattle.mum_worker.proofs.routing.route_bytes.Given as goal

abbrev pub ghosts-route_counted : goal.ghosts-route_counted
ghosts-route_counted g a = record { name = a.blank.name; parts = a.blank.parts }
