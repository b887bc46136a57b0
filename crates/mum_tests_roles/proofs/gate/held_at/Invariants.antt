use Rattle.mum_tests_roles.proofs.gate.held_at.Given as goal

-- the opening of the publisher at hand, and what the door has counted
abbrev pub ghosts-held_named-N-Naming : goal.ghosts-held_named-N-Naming
ghosts-held_named-N-Naming g a = record { opening = a.publisher.now.opening }

abbrev pub ghosts-held_named-N-Doorside : goal.ghosts-held_named-N-Doorside
ghosts-held_named-N-Doorside g a = record { door = record { counts = (g.D.Door.facts a.door).counts; given = (g.D.Door.facts a.door).given; opened_at = (g.D.Door.facts a.door).opened_at } }
