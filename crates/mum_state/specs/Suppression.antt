-- Whether a session may speak where it is: for whom this is set again, and from what.
use Rattle.std.specs.Prelude.{◌&&◌, ◌||◌, Bool, false, not, List, map, Option, Some, None, if◌then◌else◌}
use Rattle.std.specs.{List.list_any, Option.option_map_or}
use Rattle.mum_users.specs.declared.user.User.{User}
use Rattle.mum_users.specs.{Sessions.suppressed, State.has_number, State.is_in}
use Rattle.mum_state.specs.declared.edit.Edit.{Edit}
use Rattle.mum_state.specs.{Kinds.sets_policy, Kinds.sets_tokens_of, Parts.SessionEdit, Parts.session_edit}
use Rattle.mum_state.specs.{Permissions.may_speak, State.StateValue}

-- the session was not in this channel before: it joined, or it was in another. One under which its channel was
-- moved is in the same
abbrev pub is_newcomer : List User → User → Bool
is_newcomer before user = not (list_any (λ was. has_number user.session was && is_in user.channel was) before)

-- it is new in its channel, or its tokens were set
abbrev pub is_renewed : List User → Edit → User → Bool
is_renewed before edit user = is_newcomer before user || sets_tokens_of edit user

-- whether it may speak is set again: also of everybody where a policy was set
abbrev pub is_set_anew : List User → Edit → User → Bool
is_set_anew before edit user = is_renewed before edit user || sets_policy edit

-- the same edit lets it speak
abbrev pub is_cleared : Edit → User → Bool
is_cleared edit user =
    option_map_or (λ one. one.clear_suppress && has_number one.session user) (session_edit edit) false

-- by what it may do now
abbrev pub heard_anew : StateValue → User → User
heard_anew state user = record user { suppress = not (may_speak state user) }

abbrev pub with_suppression : StateValue → Edit → StateValue → StateValue
with_suppression before edit state = record state {
  roster = record state.roster {
    sessions = map (λ user. if is_set_anew before.roster.sessions edit user then heard_anew state user else user) state.roster.sessions;
  };
}

-- the session of this edit may speak where it is, if the edit says so
abbrev pub cleared_by : Option SessionEdit → StateValue → StateValue
cleared_by None state = state
cleared_by (Some edit) state =
    if edit.clear_suppress then record state { roster = suppressed state.roster edit.session false } else state

-- it may speak where the edit says so, whatever it may do
abbrev pub with_clearing : Edit → StateValue → StateValue
with_clearing edit state = cleared_by (session_edit edit) state
