-- The order of what the ports of a worker take from their boxes.
use Rattle.std.specs.Prelude.{⊤, Option, Some, None}
use Rattle.std.specs.List.{AllPairs}
use Rattle.mum_outbox.specs.{Facts.PassFacts, Rule.IsBefore}
use Rattle.mum_port.specs.{Facts.PortFacts, Passes.PassesFacts}

-- of any two parcels that one pass offered, the first in what this pass has taken was offered first
abbrev pub TookInOrder : {I : Type 0} → PassFacts I → Type 0
TookInOrder pass = AllPairs IsBefore pass.taken

abbrev pub AreInOrder : Option PassesFacts → Type 0
AreInOrder None = ⊤
AreInOrder (Some passes) = TookInOrder passes.post × TookInOrder passes.voice

-- so it is with the passes of a port
abbrev pub AreTakenInOrder : {L : Type 0} → PortFacts L → Type 0
AreTakenInOrder port = AreInOrder port.passes
