use Rattle.mum_route.proofs.Common.{◌≡◌, None, length, take, if◌then◌else◌, WHISPER, AreHeard, AreKnown, can_hear, by_items}
use Rattle.mum_route.proofs.routes.reached_by_items.Given as goal

abbrev pub invariant-loop-item : goal.invariant-loop-item
invariant-loop-item g l = record {
  sound : g.T.Rights.sound l.rights l.state;
  room : length l.known ≡ 2048;
  whole : length l.reached ≡ 512;
  right : AreKnown l.state l.speaker.session WHISPER l.known;
  heard : AreHeard (λ user. if can_hear l.speaker.session user then by_items l.state l.speaker (take l.item-index l.items) user else None) l.state.roster.sessions l.reached;
}
