use Rattle.mum_core.proofs.Common.{◌≡◌, ◌++◌, drop, map, take, if◌then◌else◌, is_of, lagging}
use Rattle.mum_core.proofs.connection.lag_at_session.Given as goal

abbrev pub invariant-loop-connection : goal.invariant-loop-connection
invariant-loop-connection l =
    l.connection-items
    ≡ map (λ one. if is_of l.session one then lagging one else one) (take l.connection-index l.initial.connection-items)
    ++ drop l.connection-index l.initial.connection-items
