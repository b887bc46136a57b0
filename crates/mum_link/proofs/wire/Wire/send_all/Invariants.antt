use Rattle.mum_link.proofs.Common.{◌≡◌, length, Keeps, taken}
use Rattle.mum_link.proofs.wire.Wire.send_all.Given as goal

abbrev pub invariant-loop-self : goal.invariant-loop-self
invariant-loop-self g l =
    Keeps (taken (g.S.Socket.written l.fn.self.line.socket) l.fn.self.kept) (taken (g.S.Socket.written l.self.line.socket) l.self.kept)
    × Keeps (g.S.Socket.left l.fn.self.line.socket) (g.S.Socket.left l.self.line.socket)
    × (g.S.Socket.refusals l.self.line.socket ≡ g.S.Socket.refusals l.fn.self.line.socket)
    × (l.self.line.fault ≡ l.fn.self.line.fault)

abbrev pub decreases-loop-self : goal.decreases-loop-self
decreases-loop-self g l = length l.self.kept
