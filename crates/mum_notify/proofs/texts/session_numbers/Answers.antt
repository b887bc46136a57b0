use Rattle.mum_notify.proofs.Common.{[], SessionId}
use Rattle.mum_notify.proofs.Pieces.{mapped_at}
use Rattle.mum_notify.proofs.texts.session_numbers.Goals as goal

pub loop-session-preserved : goal.loop-session-preserved
loop-session-preserved c = mapped_at (λ (session : SessionId). session.0) [] c.args.sessions.now c.loop-session.session-index _ c.loop-session.listed.items _ c.loop-session-test.true c.loop-session.invariant c.in_ok-push.ensures.items
