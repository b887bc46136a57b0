use Rattle.mum_tests.proofs.published.relay_of.Given as goal

-- the opening of the publisher at hand
abbrev pub ghosts-relay : goal.ghosts-relay
ghosts-relay g a = record { opening = a.publisher.now.opening }
