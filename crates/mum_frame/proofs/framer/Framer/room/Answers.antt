use Rattle.mum_frame.proofs.Common.{ap, length, length-drop, arith, FramerState}
use Rattle.mum_frame.proofs.framer.Framer.room.Goals as goal

pub returns-clause-limit : goal.returns-clause-limit
returns-clause-limit c empty =
    omega (arith, ap length empty, ap (λ (state : FramerState). length state.kept) c.self.view_is, length-drop c.self.inside.start c.self.inside.buffer.items)
