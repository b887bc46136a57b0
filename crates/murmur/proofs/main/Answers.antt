use denote.Param.Send.{IsSend, sendable}
use Rattle.mum_sql_keeper.proofs.Public.{keeper_send}
use Rattle.mum_sql_keeper.specs.contracts.sql_keeper.SqlKeeper
use Rattle.murmur.proofs.main.Goals as goal

pub murmur-status-requires-send-P : goal.murmur-status-requires-send-P
murmur-status-requires-send-P g c κs = let sends : IsSend SqlKeeper.the_row = keeper_send in search sendable depth 20
