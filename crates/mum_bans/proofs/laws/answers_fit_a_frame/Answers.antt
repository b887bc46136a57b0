use Rattle.mum_bans.proofs.Sizes.{answer_fits}
use Rattle.mum_bans.proofs.laws.answers_fit_a_frame.Goals as goal

pub returns : goal.returns
returns c = answer_fits
