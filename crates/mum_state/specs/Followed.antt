-- What follows from an edit, as it is known before the edit is made.
use Rattle.std.specs.Prelude.{ℕ, ◌==◌, ◌&&◌, ◌||◌, not, Bool, true, false, List, [], ◌∷◌, Option, Some, None, is_some, if◌then◌else◌}
use Rattle.std.specs.{List.list_any, Option.option_and_then, Option.option_map_or}
use Rattle.mum_base.specs.declared.number.{ChannelId.ChannelId, SessionId.SessionId}
use Rattle.mum_tree.specs.{Rows.is_temporary, State.without_subtree}
use Rattle.mum_users.specs.declared.user.User.{User}
use Rattle.mum_users.specs.{Sessions.session_of, State.has_number}
use Rattle.mum_state.specs.declared.{edit.Edit.Edit, renewed.Renewed.Renewed}
use Rattle.mum_state.specs.declared.edit.Edit.TheVariants.{Join, Kick, Leave, MakeChannel, RemoveChannel, SetTokens}
use Rattle.mum_state.specs.{Counts.raised_slots, Counts.raised_where, Emptied.has_member}
use Rattle.mum_state.specs.{Kinds.changes_paths, Kinds.changes_routes, Kinds.is_of_configuration, Parts.session_edit}
use Rattle.mum_state.specs.{Renewed.is_renewed_slot, Set.with_tree, State.Counts, State.StateValue}

-- a session joins, enters another channel, or has its tokens set by such an edit
abbrev pub may_renew : Edit → Bool
may_renew (Join session slot name account tokens) = true
may_renew (SetTokens session tokens) = true
may_renew (MakeChannel id parent name temporary info maker) = true
may_renew (RemoveChannel id actor) = true
may_renew edit = is_some (session_edit edit)

-- the session is not in the channel that is given
abbrev pub enters : Option ChannelId → User → Bool
enters channel user = option_map_or (λ id. not (user.channel.0 == id.0)) channel false

-- the slot is that of the maker of a temporary channel
abbrev pub is_slot_of_maker : Bool → Option SessionId → List User → ℕ → Bool
is_slot_of_maker temporary None users slot = false
is_slot_of_maker temporary (Some maker) users slot =
    temporary && list_any (λ user. has_number maker user && (user.slot.0 == slot)) users

-- the channel in which a session is, if it is temporary
abbrev pub temporary_around : StateValue → SessionId → Option ChannelId
temporary_around state session =
    option_and_then (λ user. if is_temporary state.tree.channels user.channel then Some user.channel else None)
    (session_of state.roster session)

-- the temporary channel that the edit may empty: that in which the session is that goes or enters another
abbrev pub left_by : StateValue → Edit → Option ChannelId
left_by state (Leave session) = temporary_around state session
left_by state (Kick session actor reason ban) = temporary_around state session
left_by state (MakeChannel id parent name temporary info maker) =
    if temporary then option_and_then (temporary_around state) maker else None
left_by state edit =
    option_and_then (λ user. if is_some user.change.channel then temporary_around state user.session else None)
    (session_edit edit)

-- there is such a channel, and nobody is in it
abbrev pub is_left_empty : Option ChannelId → StateValue → Bool
is_left_empty left state = option_map_or (λ id. not (has_member state.roster.sessions id)) left false

-- it goes where nobody is in it
abbrev pub with_left_closed : Option ChannelId → StateValue → StateValue
with_left_closed None state = state
with_left_closed (Some id) state =
    if has_member state.roster.sessions id then state else with_tree state (without_subtree state.tree id)

-- the session that may speak where it is, if the edit says so
abbrev pub cleared_session : Edit → List SessionId
cleared_session edit =
    option_map_or (λ user. if user.clear_suppress then user.session ∷ [] else []) (session_edit edit) []

-- the counts after an edit that renews these slots, and closes a channel or not
abbrev pub counted : Edit → Renewed → Bool → Counts → Counts
counted edit renewed closed counts = record {
  revision = raised_where (not (is_of_configuration edit)) counts.revision;
  policy = raised_where (changes_paths edit || closed) counts.policy;
  routing = raised_where (changes_routes edit) counts.routing;
  slots = raised_slots (is_renewed_slot renewed) 0 counts.slots;
}
