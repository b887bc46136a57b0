use Rattle.mum_serve.proofs.server.run_opened.Given as goal

-- the published state that was opened, the doors and the keeper name what is generic in them
abbrev pub ghosts-run-N-Naming : goal.ghosts-run-N-Naming
ghosts-run-N-Naming g a = record { opening = a.publisher.now.opening }

abbrev pub ghosts-run-N-Doorside : goal.ghosts-run-N-Doorside
ghosts-run-N-Doorside g a = record { door = record { counts = (g.D.Door.facts a.objects.door).counts; given = (g.D.Door.facts a.objects.door).given; opened_at = (g.D.Door.facts a.objects.door).opened_at } }

abbrev pub ghosts-run-N-Viewing : goal.ghosts-run-N-Viewing
ghosts-run-N-Viewing g a = record { view = record { counts = (g.D.Door.facts a.objects.view).counts; given = (g.D.Door.facts a.objects.view).given; opened_at = (g.D.Door.facts a.objects.view).opened_at } }

abbrev pub ghosts-run-N-Keeping : goal.ghosts-run-N-Keeping
ghosts-run-N-Keeping g a = record { keeper = record { faults = (g.P.Keeper.facts a.objects.keeper).faults; opened_at = (g.P.Keeper.facts a.objects.keeper).opened_at } }
