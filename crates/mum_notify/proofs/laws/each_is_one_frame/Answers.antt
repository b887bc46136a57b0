use Rattle.mum_notify.proofs.OneFrame.{each_is_one_frame_lem, sync_block_one}
use Rattle.mum_notify.proofs.laws.each_is_one_frame.Goals as goal

pub returns : goal.returns
returns c = record { told = each_is_one_frame_lem; first = sync_block_one }
