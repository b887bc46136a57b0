use denote.Param.Send.{IsSend, sendable}
use Rattle.mum_sql_keeper.proofs.Public.{keeper_send}
use Rattle.mum_sql_keeper.specs.contracts.sql_keeper.SqlKeeper
use Rattle.mum_tests_sql.proofs.kept_file.a_keeper_may_go_to_another_thread.Goals as goal

pub let_go-requires-send-typeof-keeper : goal.let_go-requires-send-typeof-keeper
let_go-requires-send-typeof-keeper c κs = let sends : IsSend SqlKeeper.the_row = keeper_send in search sendable depth 20
