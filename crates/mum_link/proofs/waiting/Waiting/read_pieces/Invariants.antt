use Rattle.mum_link.proofs.Common.{◌≡◌, ReadsOn}
use Rattle.mum_link.proofs.waiting.Waiting.read_pieces.Given as goal

abbrev pub invariant-loop : goal.invariant-loop
invariant-loop g l =
    (l.self.since ≡ l.fn.self.since)
    × ReadsOn l.fn.self.reader l.self.reader (g.S.Socket.left l.fn.self.socket) (g.S.Socket.left l.self.socket)
