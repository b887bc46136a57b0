use Rattle.mum_bans.proofs.Cuts.{one_cut}
use Rattle.mum_bans.proofs.laws.cuts_are_longest.Goals as goal

pub returns : goal.returns
returns c = one_cut
