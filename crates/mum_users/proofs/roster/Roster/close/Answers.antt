use Rattle.mum_users.proofs.Common.{not}
use Rattle.mum_users.proofs.{ListenerMasks.AreMasks-closed, Rosters.IsProper-fewer_listeners}
use Rattle.mum_users.proofs.roster.Roster.close.Goals as goal

pub invariant_of-self : goal.invariant_of-self
invariant_of-self g c = record {
  proper = rw c.close.ensures (IsProper-fewer_listeners _ (λ pair. not (g.G.ChannelSet.has_channel c.args.gone.now pair.channel)) c.self.invariant.proper);
  rise = c.self.invariant.rise;
  numbered = c.self.invariant.numbered;
  member_masks = c.self.invariant.member_masks;
  enough = c.self.invariant.enough;
  listener_masks = rw (c.drop_masks.ensures, c.close.ensures) (AreMasks-closed (g.G.ChannelSet.has_channel c.args.gone.now) _ _ _ c.self.invariant.listener_masks);
}

pub returns-clause-proper : goal.returns-clause-proper
returns-clause-proper g c =
    rw c.close.ensures (IsProper-fewer_listeners _ (λ pair. not (g.G.ChannelSet.has_channel c.args.gone.now pair.channel)) c.self.invariant.proper)
