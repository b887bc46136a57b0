use Rattle.mum_core.proofs.Common.{◌≡◌, ◌∙◌, ◌<◌, ℕ, List, length, get_or, set, ap, sym, arith, if◌then◌else◌, set-mapped, is_of, lagging, Connection}
use Rattle.mum_core.proofs.connection.lag_at_session.Goals as goal

pub loop-connection-preserved : goal.loop-connection-preserved
loop-connection-preserved c =
    let f : Connection → Connection = λ one. if is_of c.args.session one then lagging one else one in
    let all : List Connection = c.deref_mut-connection-items.result.now in
    let i : ℕ = c.loop-connection.connection-index in
    let one : Connection = c.connection-item.result in
    let at : Connection = get_or c.loop-connection.connection-items i one in
    let made : c.lag_of.new.self ≡ f at = c.lag_of.ensures in
    let within : i < length all = omega arith in
    ap (λ (new : Connection). set c.loop-connection.connection-items i new) made
    ∙ ap (λ (new : Connection). set c.loop-connection.connection-items i (f new)) (sym c.connection-item.is)
    ∙ ap (λ (seen : List Connection). set seen i (f one)) c.loop-connection.invariant
    ∙ set-mapped f all i one within (c.connection-item.is ∙ ap (λ (seen : List Connection). get_or seen i one) c.loop-connection.invariant)
