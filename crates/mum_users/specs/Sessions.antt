-- The sessions of a roster: who is found, and what joins, leaves and changes.
use Rattle.std.specs.Prelude.{◌≡◌, ℕ, ◌+◌, ◌-◌, ◌^◌, ◌<◌, ◌==◌, ◌||◌, nat_le, not, Bool, false, List, [], ◌∷◌, length, map, filter, find, insert, Option, Some, None, unwrap_or, if◌then◌else◌, IsTrue}
use Rattle.std.specs.List.{list_any}
use Rattle.mum_base.specs.declared.number.{SessionId.SessionId, AccountId.AccountId, ChannelId.ChannelId, Slot.Slot}
use Rattle.mum_users.specs.declared.{flags.FlagChange.FlagChange, user.User.User, fault.UserFault.UserFault}
use Rattle.mum_users.specs.declared.fault.UserFault.TheVariants.{NameInUse, Full, NoSession, SessionsUsedUp}
use Rattle.mum_users.specs.Flags.{flagged}
use Rattle.mum_users.specs.State.{RosterState, has_name, has_number, has_slot, is_of, is_of_session, joining}

-- the session of this number
abbrev pub session_of : RosterState → SessionId → Option User
session_of state session = find (has_number session) state.sessions

-- the session in this slot
abbrev pub session_at : RosterState → Slot → Option User
session_at state slot = find (has_slot slot) state.sessions

-- the first cause of a call that is refused only where the session is not there
abbrev pub absent_fault : RosterState → SessionId → Option UserFault
absent_fault state session = if list_any (has_number session) state.sessions then None else Some NoSession

-- the least slot from this one on that these sessions, by their slots, leave free
abbrev pub free_slot_from : ℕ → List User → ℕ
free_slot_from slot [] = slot
free_slot_from slot (user ∷ users) = if user.slot.0 == slot then free_slot_from (slot + 1) users else slot

-- the least slot that no session has
abbrev pub free_slot : RosterState → ℕ
free_slot state = free_slot_from 0 state.sessions

-- no session holds the slot, and each one below it is held
pub record IsLeastFree (users : List User) (slot : ℕ) : Type 0 where
  pub free : list_any (λ user. user.slot.0 == slot) users ≡ false
  pub least : (below : ℕ) → below < slot → IsTrue (list_any (λ user. user.slot.0 == below) users)

-- as many sessions are here as the limit says
abbrev pub is_full : RosterState → Bool
is_full state = nat_le state.limit (length state.sessions)

-- no session number is left
abbrev pub is_used_up : RosterState → Bool
is_used_up state = nat_le (2 ^ 32 - 1) state.last

-- one above the last number that was given
abbrev pub next_number : RosterState → SessionId
next_number state = record { 0 = state.last + 1 }

-- the slot that the next session takes
abbrev pub next_slot : RosterState → Slot
next_slot state = record { 0 = free_slot state }

-- what the next join takes, if there is a slot and a number
abbrev pub next_join : RosterState → Option (SessionId × Slot)
next_join state =
    if is_full state || is_used_up state then None
    else Some (next_number state, next_slot state)

-- the first cause that refuses a join
abbrev pub join_fault : RosterState → List ℕ → Option UserFault
join_fault state name =
    if list_any (has_name name) state.sessions then Some NameInUse
    else if is_full state then Some Full
    else if is_used_up state then Some SessionsUsedUp
    else None

-- each slot below the free one is held, so that is the place of the new row
abbrev pub joined : RosterState → List ℕ → Option AccountId → List (List ℕ) → RosterState
joined state name account tokens = record state {
  sessions =
      insert state.sessions (free_slot state) (joining (next_number state) (next_slot state) name account tokens);
  last = state.last + 1;
}

-- a session's listening and its targets go with it; the targets of others keep its number
abbrev pub left : RosterState → SessionId → RosterState
left state session = record state {
  sessions = filter (λ user. not (has_number session user)) state.sessions;
  listeners = filter (λ pair. not (is_of_session session pair)) state.listeners;
  targets = filter (λ row. not (is_of session row)) state.targets;
}

-- the session's row is changed, and no other
abbrev pub changed : RosterState → SessionId → (User → User) → RosterState
changed state session change = record state {
  sessions = map (λ user. if has_number session user then change user else user) state.sessions;
}

-- the session is in this channel
abbrev pub placed : RosterState → SessionId → ChannelId → RosterState
placed state session channel = changed state session (λ user. record user { channel = channel })

-- it may speak or not where it is
abbrev pub suppressed : RosterState → SessionId → Bool → RosterState
suppressed state session on = changed state session (λ user. record user { suppress = on })

-- its flags are changed
abbrev pub with_flags : RosterState → SessionId → FlagChange → RosterState
with_flags state session change = changed state session (λ user. flagged user change)

-- it has these tokens
abbrev pub with_tokens : RosterState → SessionId → List (List ℕ) → RosterState
with_tokens state session tokens = changed state session (λ user. record user { tokens = tokens })

-- a text that is not given stays
abbrev pub with_texts : RosterState → SessionId → Option (List ℕ) → Option (List ℕ) → RosterState
with_texts state session comment context =
    changed state session
    (λ user. record user { comment = unwrap_or comment user.comment; context = unwrap_or context user.context })
