use Rattle.mum_tests_roles.proofs.turns.boxes_with.Given as goal

abbrev pub ghosts-route_packets : goal.ghosts-route_packets
ghosts-route_packets g a = record { name = a.blank.name; parts = a.blank.parts }
