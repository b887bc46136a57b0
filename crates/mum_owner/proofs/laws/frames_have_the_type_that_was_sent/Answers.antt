use Rattle.mum_owner.proofs.Sent.{sent}
use Rattle.mum_owner.proofs.laws.frames_have_the_type_that_was_sent.Goals as goal

pub returns : goal.returns
returns c = sent
