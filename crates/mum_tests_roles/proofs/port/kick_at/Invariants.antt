use Rattle.mum_tests_roles.proofs.port.kick_at.Given as goal

-- the opening of the publisher at hand
abbrev pub ghosts-kick_and_lag : goal.ghosts-kick_and_lag
ghosts-kick_and_lag g a = record { opening = a.publisher.now.opening }
