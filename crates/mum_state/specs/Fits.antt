-- Which edits fit a state.
use Rattle.std.specs.Prelude.{ℕ, ◌+◌, ◌==◌, ◌&&◌, ◌||◌, not, nat_le, nat_lt, Bool, true, length, Option, is_none, if◌then◌else◌}
use Rattle.std.specs.{List.list_any, Option.option_map_or}
use Rattle.mum_base.specs.declared.number.TheConstants.{PLACES, SLOTS}
use Rattle.mum_tree.specs.{Change.fault_of_edit, Refusals.fault_of_add, Refusals.fault_of_remove}
use Rattle.mum_users.specs.declared.target.TheConstants.{LAST_TARGET}
use Rattle.mum_users.specs.{Edit.edit_fault, Sessions.join_fault, Sessions.next_number, Sessions.next_slot}
use Rattle.mum_users.specs.{State.are_tokens, State.is_context, Targets.is_oversize}
use Rattle.mum_state.specs.declared.{account.TheConstants.ACCOUNT_LIMIT, count.TheConstants.EDIT_LIMIT, edit.Edit.Edit}
use Rattle.mum_state.specs.declared.edit.Edit.TheVariants.{AddAccount, Join, MakeChannel, RemoveChannel, SetAcl, SetLimits, SetServer, SetTarget, SetTokens}
use Rattle.mum_state.specs.{Kinds.changes_paths, Kinds.changes_routes, Kinds.is_of_configuration, Named.names_there}
use Rattle.mum_state.specs.Parts.{ChannelEdit, SessionEdit, by_parts}
use Rattle.mum_state.specs.State.{StateValue, has_account, is_named}
use Rattle.mum_state.specs.Proper.{is_name, is_short, is_sound_policy, is_text}

-- it holds of the value that is given, if one is
abbrev pub holds_of_given : {X : Type 0} → (X → Bool) → Option X → Bool
holds_of_given test value = option_map_or test value true

-- a new session has the next number and the least free slot, a new channel a number above all that channels had, a
-- voice target a number from 1 to 30, and no limit falls
abbrev pub gives_right_numbers : StateValue → Edit → Bool
gives_right_numbers state (Join session slot name account tokens) =
    (session.0 == (next_number state.roster).0) && (slot.0 == (next_slot state.roster).0)
gives_right_numbers state (MakeChannel id parent name temporary info maker) = nat_lt state.tree.greatest id.0
gives_right_numbers state (SetTarget session id target) = not ((id == 0) || nat_lt LAST_TARGET id)
gives_right_numbers state (SetLimits sessions channels) =
    nat_le state.roster.limit sessions && nat_le state.tree.limit channels
gives_right_numbers state edit = true

-- no cause refuses the change of a channel, and its name and its description are as they may be
abbrev pub edits_channel_properly : StateValue → ChannelEdit → Bool
edits_channel_properly state edit =
    is_none (fault_of_edit state.tree edit.channel edit.change)
    && holds_of_given is_name edit.change.name && holds_of_given is_text edit.change.description

-- no cause refuses the change of a session, and its comment and its context are as they may be
abbrev pub edits_session_properly : StateValue → SessionEdit → Bool
edits_session_properly state edit =
    is_none (edit_fault state.roster edit.session edit.change)
    && holds_of_given is_text edit.change.comment && holds_of_given is_context edit.change.context

-- what it sets is as it may be: where this holds of an edit that names what is there, the state stays proper
abbrev pub sets_properly : StateValue → Edit → Bool
sets_properly state (SetServer welcome bandwidth password) = is_text welcome
sets_properly state (SetLimits sessions channels) = nat_le sessions SLOTS && nat_le channels PLACES
sets_properly state (AddAccount account name digest) =
    not (has_account state account) && not (list_any (is_named name) state.accounts)
    && is_short name && nat_lt (length state.accounts) ACCOUNT_LIMIT
sets_properly state (Join session slot name account tokens) =
    is_none (join_fault state.roster name) && is_short name && are_tokens tokens
sets_properly state (MakeChannel id parent name temporary info maker) =
    is_none (fault_of_add state.tree id parent name) && is_name name && is_text info.description
sets_properly state (RemoveChannel id actor) = is_none (fault_of_remove state.tree id)
sets_properly state (SetTokens session tokens) = are_tokens tokens
sets_properly state (SetTarget session id target) = not (is_oversize target)
sets_properly state (SetAcl channel actor policy) = is_sound_policy policy
sets_properly state edit = by_parts (edits_channel_properly state) (edits_session_properly state) true edit

-- the count may still rise over the revision, where the edit raises it
abbrev pub has_room_for : Bool → ℕ → ℕ → Bool
has_room_for raises revision count = not raises || nat_lt count (revision + EDIT_LIMIT)

-- it can be counted: sessions make no more edits than the limit, and a configuration raises no count far above them
abbrev pub is_countable : StateValue → Edit → Bool
is_countable state edit =
    if is_of_configuration edit
    then has_room_for (changes_paths edit) state.counts.revision state.counts.policy
    && has_room_for (changes_routes edit) state.counts.revision state.counts.routing
    else nat_lt state.counts.revision EDIT_LIMIT

-- whom and what it names is there, the numbers that it gives are right, what it sets is as it may be, and it can be
-- counted
abbrev pub fits : StateValue → Edit → Bool
fits state edit =
    names_there state edit && gives_right_numbers state edit && sets_properly state edit && is_countable state edit
