use Rattle.mum_owner.proofs.Framing.{one_frame}
use Rattle.mum_owner.proofs.entry.framed.Goals as goal

pub returns-clause-one : goal.returns-clause-one
returns-clause-one g c =
    one_frame c.args.kind _ _ c.ranges.kind.fits c.if-payload-gt-PAYLOAD_LIMIT.false c.in_ok-put_frame.ensures
