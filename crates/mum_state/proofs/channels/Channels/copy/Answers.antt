use Rattle.mum_state.proofs.channels.Channels.copy.Goals as goal

pub returns : goal.returns
returns c = rw (c.in_ok-copy.ensures.made, c.in_ok-copy_of_policies.ensures, c.as_slice.ensures.value) c.self.view_is
