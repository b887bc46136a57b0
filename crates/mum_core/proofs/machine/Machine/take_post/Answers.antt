use Rattle.mum_core.proofs.Common.{◌∙◌, Some, ap, drop, map, slice_get, sym, if◌then◌else◌, Notice, is_of, lagging, CoreState, up}
use Rattle.mum_core.proofs.Lagged.{found_full, lags}
use Rattle.mum_core.proofs.machine.Machine.take_post.Goals as goal

pub returns-then-not-has_room_at-clause-settled : goal.returns-then-not-has_room_at-clause-settled
returns-then-not-has_room_at-clause-settled c =
    let core : CoreState = c.args.self.now in
    let next : Notice = c.in_ok-next.next in
    let first = ap (λ (k : CoreState). slice_get k.pending 0) c.self.view_is in
    let posts = c.as_slice.ensures.value ∙ ap (λ (k : CoreState). k.posts) c.self.view_is in
    let full = found_full core c.as_slice.result.now c.from-place.result next.slot.0 c.has_room_at.result posts c.from-place.ensures c.has_room_at.ensures c.if-not-has_room_at.true in
    let lagged = c.lag_at_session.ensures ∙ ap (λ (k : CoreState). map (λ one. if is_of next.to one then lagging one else one) k.connections) c.self.view_is in
    let counted =
    c.count_post.ensures
    ∙ ap (λ (k : CoreState). record k { connections = c.lag_at_session.new.connections.items; pending = drop 1 k.pending; posted = up k.posted }) c.self.view_is in
    lags core c.count_post.new.self next c.lag_at_session.new.connections.items
    (sym first ∙ (sym c.in-Some.ensures ∙ ap (λ (n : Notice). Some n) (sym c.in_ok-next.ensures))) full lagged counted
