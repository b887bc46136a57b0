use Rattle.mum_state.proofs.Common.{◌≡◌, ◌==◌, ◌&&◌, ℕ, false, get_or, length, take, list_any, SLOTS, User, is_speaker}
use Rattle.mum_state.proofs.hearing.Hearing.speakers.Given as goal

abbrev pub invariant-loop-place : goal.invariant-loop-place
invariant-loop-place l =
    (length l.speakers ≡ SLOTS) × ((slot : ℕ) → get_or l.speakers slot false ≡ list_any (λ (user : User). (user.slot.0 == slot) && is_speaker l.self.renewed.now l.self.all l.self.channels.now user) (take l.place l.users))
