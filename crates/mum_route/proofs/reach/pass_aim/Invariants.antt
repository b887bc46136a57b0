use Rattle.mum_route.proofs.Common.{aimed, heard_by, AreKnown, IsAnswered, first_of}
use Rattle.mum_route.proofs.Filled.{AreFilled}
use Rattle.mum_route.proofs.reach.pass_aim.Given as goal

abbrev pub invariant-loop-i : goal.invariant-loop-i
invariant-loop-i g l = record {
  sound : g.T.Rights.sound l.rights l.state;
  right : AreKnown l.state l.aim.speaker l.aim.perm l.known;
  last : IsAnswered l.state (aimed l.aim) l.last;
  filled : AreFilled (λ before user. first_of before (heard_by l.state (aimed l.aim) user)) l.state.roster.sessions l.fn.reached l.reached l.i;
}
