use Rattle.mum_link.proofs.Common.{◌≡◌, Keeps, IsBroken, Stays, taken}
use Rattle.mum_link.proofs.wire.Wire.send_kept.Given as goal

abbrev pub invariant-loop : goal.invariant-loop
invariant-loop g l =
    Keeps (taken (g.S.Socket.written l.fn.self.line.socket) l.fn.self.kept) (taken (g.S.Socket.written l.self.line.socket) l.self.kept)
    × Keeps (g.S.Socket.left l.fn.self.line.socket) (g.S.Socket.left l.self.line.socket)
    × (l.self.meter ≡ l.fn.self.meter)
    × Stays l.fn.self.line.fault l.self.line.fault
    × (IsBroken l.fn.self.line.fault → l.self.line.socket ≡ l.fn.self.line.socket)
