-- The voice targets of sessions.
use Rattle.std.specs.Prelude.{ℕ, ◌==◌, ◌&&◌, ◌||◌, not, nat_lt, Bool, List, [], ◌∷◌, length, filter, find, sum_by, Option, Some, None, if◌then◌else◌}
use Rattle.std.specs.{List.list_any, Option.option_map}
use Rattle.mum_base.specs.declared.number.SessionId.{SessionId}
use Rattle.mum_users.specs.declared.target.TheConstants.{LAST_TARGET, TARGET_ITEMS, TARGET_SESSIONS, GROUP_BYTES}
use Rattle.mum_users.specs.declared.{target.Target.Target, target.TargetRow.TargetRow, fault.UserFault.UserFault}
use Rattle.mum_users.specs.declared.fault.UserFault.TheVariants.{NoSession, TargetId, TargetSize}
use Rattle.mum_users.specs.State.{RosterState, has_number, is_target}

-- the voice target of a session under a number
abbrev pub target_of : RosterState → SessionId → ℕ → Option Target
target_of state session id = option_map (λ row. row.target) (find (is_target session id) state.targets)

-- it has more items, more sessions over all of them or a longer group than a target may have
abbrev pub is_oversize : Target → Bool
is_oversize target =
    nat_lt TARGET_ITEMS (length target.items)
    || nat_lt TARGET_SESSIONS (sum_by (λ item. length item.sessions) target.items)
    || list_any (λ item. nat_lt GROUP_BYTES (length item.group)) target.items

-- the first cause that refuses to set a target
abbrev pub target_fault : RosterState → SessionId → ℕ → Target → Option UserFault
target_fault state session id target =
    if not (list_any (has_number session) state.sessions) then Some NoSession
    else if (id == 0) || nat_lt LAST_TARGET id then Some TargetId
    else if is_oversize target then Some TargetSize
    else None

-- by their sessions, those of one session by their numbers
abbrev pub target_below : SessionId → ℕ → TargetRow → Bool
target_below session id row =
    nat_lt row.session.0 session.0 || ((row.session.0 == session.0) && nat_lt row.id id)

-- the target at its place among these, in place of that of the same number
abbrev pub with_target : TargetRow → List TargetRow → List TargetRow
with_target new [] = new ∷ []
with_target new (row ∷ rows) =
    if target_below new.session new.id row then row ∷ with_target new rows
    else if is_target new.session new.id row then new ∷ rows
    else new ∷ row ∷ rows

-- no items unset the target
abbrev pub targeted : RosterState → SessionId → ℕ → Target → RosterState
targeted state session id target =
    if length target.items == 0
    then record state { targets = filter (λ row. not (is_target session id row)) state.targets }
    else record state { targets = with_target (record { session = session; id = id; target = target }) state.targets }
