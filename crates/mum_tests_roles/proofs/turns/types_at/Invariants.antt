use Rattle.mum_tests_roles.proofs.turns.types_at.Given as goal

-- the opening of the publisher at hand
abbrev pub ghosts-types_named : goal.ghosts-types_named
ghosts-types_named g a = record { opening = a.publisher.now.opening }
