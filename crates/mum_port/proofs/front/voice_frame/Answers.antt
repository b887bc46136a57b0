use Rattle.mum_port.proofs.Common.{refl, spelling_of}
use Rattle.mum_port.proofs.front.voice_frame.Goals as goal

pub returns : goal.returns
unfolding spelling_of
returns c =
    rw (c.append-2.ensures.items, c.append.ensures.items, c.new-frame.ensures, c.write_u32.ensures, c.write_u16.ensures) refl
