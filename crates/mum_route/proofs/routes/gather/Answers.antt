use Rattle.mum_route.proofs.Common.{◌∙◌, [], ◌∷◌, None, length, get_or, ap, arith, length-append, heard_of}
use Rattle.mum_route.proofs.Gathered.{gathered_more, one_heard}
use Rattle.mum_route.proofs.routes.gather.Goals as goal

pub loop-i-preserved : goal.loop-i-preserved
loop-i-preserved c = record {
  gathered = gathered_more c.args.speaker.now c.args.users.now c.args.reached.now c.loop-i.i c.index-users-i.result c.loop-i.audience c.push_reached.new.audience
      c.loop-i-test.true (omega arith) c.index-users-i.is c.loop-i.invariant.gathered c.push_reached.ensures;
  few = omega (
    arith,
    ap length c.push_reached.ensures
        ∙ length-append c.loop-i.audience (heard_of c.args.speaker.now (c.index-users-i.result ∷ []) (get_or c.args.reached.now c.loop-i.i None ∷ [])),
    one_heard c.args.speaker.now c.index-users-i.result (get_or c.args.reached.now c.loop-i.i None),
  );
}
