use Rattle.murmur_why.proofs.route.hear.Given as goal

abbrev pub ghosts-counted_route : goal.ghosts-counted_route
ghosts-counted_route a = record { name = a.blank.name; parts = a.blank.parts }
