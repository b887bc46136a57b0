use Rattle.mum_frame.proofs.Common.{refl, spelling_of}
use Rattle.mum_frame.proofs.frame.put_frame.Goals as goal

pub returns : goal.returns
unfolding spelling_of
returns c =
    rw (c.from_vec.ensures, c.in_ok-extend_from_slice-2.ensures.items, c.in_ok-extend_from_slice.ensures.items, c.in_ok-wire.ensures.items, c.write_u32.ensures, c.write_u16.ensures) refl
