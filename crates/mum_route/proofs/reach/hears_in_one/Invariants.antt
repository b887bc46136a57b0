use Rattle.mum_route.proofs.Common.{◌≡◌, ◌&&◌, false, take, list_any, is_among, LISTEN, aimed, covered, AreKnown, is_in_group, may}
use Rattle.mum_route.proofs.reach.hears_in_one.Given as goal

abbrev pub invariant-loop-pair : goal.invariant-loop-pair
invariant-loop-pair g l = record {
  sound : g.T.Rights.sound l.rights l.state;
  right : AreKnown l.state l.aim.speaker l.aim.perm l.known;
  none : list_any
      (λ pair. is_among (covered l.state (aimed l.aim)) pair.channel && is_in_group l.state l.aim.group.now pair.channel l.user && may l.state l.user.session LISTEN pair.channel)
      (take l.pair-index l.pairs) ≡ false;
}
