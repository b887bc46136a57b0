use Rattle.mum_pace.proofs.Headers.{begun-is}
use Rattle.mum_pace.proofs.frames.Frames.begin_frame.Goals as goal

pub returns : goal.returns
returns c = begun-is c.args.self.now.header _ _ c.from_be_bytes-self.ensures c.from_be_bytes-self-2.ensures
