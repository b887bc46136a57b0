use Rattle.murmur_why.proofs.route.reason.Given as goal

abbrev pub ghosts-counted_reason : goal.ghosts-counted_reason
ghosts-counted_reason a = record { name = a.blank.name; parts = a.blank.parts }
