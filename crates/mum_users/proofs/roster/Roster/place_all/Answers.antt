use Rattle.mum_users.proofs.Common.{arith, ap, sym, ◌∙◌, length, masks_of}
use Rattle.mum_users.proofs.Rosters.{IsKept-made, IsKept-stayed, IsProper-with_placement, room_for_all}
use Rattle.mum_users.proofs.roster.Roster.place_all.Goals as goal

pub put_members-requires : goal.put_members-requires
put_members-requires g c =
    let few = room_for_all _ (IsProper-with_placement _ (g.S.Placements.placement_of c.args.placements.now) c.self.invariant.proper) in
    record { room = omega (arith, few, c.self.invariant.enough, ap length (c.as_slice.ensures.value ∙ c.place_each.ensures.placed)) }

pub invariant_of-self : goal.invariant_of-self
invariant_of-self g c =
    rw c.place_each.ensures.placed (IsKept-made _ _ _ _ _ _ _ (g.S.Placements.placement_of c.args.placements.now) c.self.invariant
    (c.put_members.ensures.items ∙ ap masks_of (c.as_slice.ensures.value ∙ c.place_each.ensures.placed)) c.put_members.ensures.room)

pub invariant_of-self-else-place_each : goal.invariant_of-self-else-place_each
invariant_of-self-else-place_each g c =
    rw c.place_each.ensures.placed (IsKept-stayed _ _ _ _ _ (g.S.Placements.placement_of c.args.placements.now) c.self.invariant (sym c.place_each.ensures.moved ∙ c.if-place_each.false))

pub returns-then-place_each-clause-proper : goal.returns-then-place_each-clause-proper
returns-then-place_each-clause-proper g c = rw c.place_each.ensures.placed (IsProper-with_placement _ (g.S.Placements.placement_of c.args.placements.now) c.self.invariant.proper)

pub returns-else-place_each-clause-proper : goal.returns-else-place_each-clause-proper
returns-else-place_each-clause-proper g c = rw c.place_each.ensures.placed (IsProper-with_placement _ (g.S.Placements.placement_of c.args.placements.now) c.self.invariant.proper)
