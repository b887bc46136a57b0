use Rattle.mum_tests_roles.proofs.store.heard_at.Given as goal

-- the opening of the publisher at hand, and what the door has counted
abbrev pub ghosts-heard_named-N-Naming : goal.ghosts-heard_named-N-Naming
ghosts-heard_named-N-Naming g a = record { opening = a.publisher.now.opening }

abbrev pub ghosts-heard_named-N-Doorside : goal.ghosts-heard_named-N-Doorside
ghosts-heard_named-N-Doorside g a = record { door = record { counts = (g.D.Door.facts a.door).counts; given = (g.D.Door.facts a.door).given; opened_at = (g.D.Door.facts a.door).opened_at } }
