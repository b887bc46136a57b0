use Rattle.murmur_why.proofs.route.cut.Given as goal

abbrev pub ghosts-counted_cut : goal.ghosts-counted_cut
ghosts-counted_cut a = record { name = a.blank.name; parts = a.blank.parts }
