use Rattle.mum_bans.proofs.ban.+begin_alike.Given as goal

abbrev pub decreases-begin_alike : goal.decreases-begin_alike
decreases-begin_alike l = l.bits
