use Rattle.mum_tests_roles.proofs.control.see_at.Given as goal

-- the opening of the publisher at hand
abbrev pub ghosts-open_and_see : goal.ghosts-open_and_see
ghosts-open_and_see g a = record { opening = a.publisher.now.opening }
