use Rattle.mum_warden.proofs.Answers.{whole_frame}
use Rattle.mum_warden.proofs.laws.answers_are_frames.Goals as goal

pub returns : goal.returns
returns c = whole_frame
