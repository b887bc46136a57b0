use Rattle.mum_router.proofs.Common.{◌≡◌, ◌≤◌, length, take, SLOTS, plain_parts, IsDraft, IsOfSame, DeliversEach}
use Rattle.mum_router.proofs.offering.deliver_each.Given as goal

abbrev pub invariant-loop-hearer : goal.invariant-loop-hearer
invariant-loop-hearer g l =
    DeliversEach l.fn.draft.note.edits l.fn.draft.speaker (plain_parts l.packet) (take l.hearer-index l.hearers) l.fn.outs.items l.outs.items l.marks l.sent
    × IsDraft (plain_parts l.packet) l.draft
    × (length l.outs.items ≡ SLOTS) × (length l.marks ≡ l.hearer-index) × (l.sent ≤ l.hearer-index)
    × IsOfSame l.fn.draft l.draft
