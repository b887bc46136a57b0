use Rattle.mum_keeper.proofs.Common.{◌≡◌, take, all_made}
use Rattle.mum_keeper.proofs.tables.Tables.changed.Given as goal

abbrev pub invariant-loop-change : goal.invariant-loop-change
invariant-loop-change l = l.after ≡ all_made (take l.change-index l.changes) l.self
