use Rattle.mum_state.proofs.Common.{◌≡◌, ◌==◌, ◌&&◌, ℕ, false, get_or, length, take, list_any, SLOTS, is_below, User}
use Rattle.mum_state.proofs.followed.slots_below.Given as goal

abbrev pub invariant-loop-user : goal.invariant-loop-user
invariant-loop-user l =
    (length l.marks ≡ SLOTS) × ((slot : ℕ) → get_or l.marks slot false ≡ list_any (λ (user : User). (user.slot.0 == slot) && is_below l.tree.channels l.id user.channel) (take l.user-index l.users))
