use Rattle.mum_users.proofs.Common.{◌≡◌, ◌∙◌, ◌<◌, ◌||◌, ◌==◌, ℕ, Bool, List, length, get_or, not, set, ap, sym, arith, list_any_more, Placement, User, is_moved, with_placement}
use Rattle.mum_users.proofs.Placed.{at-mapped, set-mapped}
use Rattle.mum_users.proofs.placing.place_each.Goals as goal

pub loop-user-preserved : goal.loop-user-preserved
loop-user-preserved g c =
    let f : User → User = with_placement (g.S.Placements.placement_of c.args.placements.now) in
    let p : User → Bool = is_moved (g.S.Placements.placement_of c.args.placements.now) in
    let users : List User = c.deref_mut-user-items.result.now in
    let i : ℕ = c.loop-user.user-index in
    let user : User = c.user-item.result in
    let at : User = get_or c.loop-user.user-items i user in
    let moved : c.apply_placement-here.new.user ≡ record at { channel = c.placement-placement.result.channel; suppress = c.placement-placement.result.suppress } = c.apply_placement-here.ensures.placed in
    let made : c.apply_placement-here.new.user ≡ f at =
    moved ∙ ap (λ (placement : Placement). record at { channel = placement.channel; suppress = placement.suppress }) c.placement-placement.ensures in
    let within : i < length users = omega arith in
    record {
      users = ap (λ (one : User). set c.loop-user.user-items i one) made
          ∙ ap (λ (one : User). set c.loop-user.user-items i (f one)) (sym c.user-item.is)
          ∙ ap (λ (seen : List User). set seen i (f user)) c.loop-user.invariant.users
          ∙ set-mapped f users i user within (c.user-item.is ∙ ap (λ (seen : List User). get_or seen i user) c.loop-user.invariant.users);
      moved = ap (λ (b : Bool). c.loop-user.moved || b) (c.apply_placement-here.ensures.moved ∙ ap (λ (placement : Placement). not (placement.channel.0 == at.channel.0)) c.placement-placement.ensures)
          ∙ ap (λ (one : User). c.loop-user.moved || p one) (ap (λ (seen : List User). get_or seen i user) c.loop-user.invariant.users ∙ at-mapped f users i user within)
          ∙ ap (λ (b : Bool). b || p (get_or users i user)) c.loop-user.invariant.moved
          ∙ sym (list_any_more p users i user within);
    }
