use Rattle.mum_session.proofs.Echoes.{ping_within_limit}
use Rattle.mum_session.proofs.session.echo.Goals as goal

pub put_frame-requires : goal.put_frame-requires
put_frame-requires c = rw (c.as_slice.ensures, c.in_ok-reply.ensures.written) (ping_within_limit c.in-Some.told.timestamp)
