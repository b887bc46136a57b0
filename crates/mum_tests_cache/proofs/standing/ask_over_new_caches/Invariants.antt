use Rattle.mum_tests_cache.proofs.standing.ask_over_new_caches.Given as goal

abbrev pub ghosts-ask : goal.ghosts-ask
ghosts-ask g a = record { name = a.blank.name; parts = a.blank.parts }
