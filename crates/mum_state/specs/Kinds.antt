-- Kinds of edits: who makes them, and what they may change.
use Rattle.std.specs.Prelude.{◌==◌, ◌&&◌, not, Bool, true, false, List, length, is_none, is_some}
use Rattle.std.specs.Option.{option_map_or}
use Rattle.mum_users.specs.declared.user.User.{User}
use Rattle.mum_users.specs.State.{has_number}
use Rattle.mum_state.specs.declared.edit.Edit.{Edit}
use Rattle.mum_state.specs.declared.edit.Edit.TheVariants.{AddAccount, Kick, Leave, MakeChannel, RemoveChannel, SetAcl, SetLimits, SetServer, SetTokens, Text}
use Rattle.mum_state.specs.Parts.{ChannelEdit, SessionEdit, by_parts, channel_edit}

-- it is a configuration's, which has no actor and no maker, and no session's
abbrev pub is_of_configuration : Edit → Bool
is_of_configuration (SetServer welcome bandwidth password) = true
is_of_configuration (SetLimits sessions channels) = true
is_of_configuration (AddAccount account name digest) = true
is_of_configuration (MakeChannel id parent name temporary info maker) = is_none maker
is_of_configuration (SetAcl channel actor policy) = is_none actor
is_of_configuration edit = option_map_or (λ channel. is_none channel.actor) (channel_edit edit) false

-- it is an edit of channels or of their policies
abbrev pub changes_channels : Edit → Bool
changes_channels (MakeChannel id parent name temporary info maker) = true
changes_channels (RemoveChannel id actor) = true
changes_channels (SetAcl channel actor policy) = true
changes_channels edit = is_some (channel_edit edit)

-- what it sets takes no memory
abbrev pub needs_no_memory : Edit → Bool
needs_no_memory (Leave session) = true
needs_no_memory (Kick session actor reason ban) = true
needs_no_memory (RemoveChannel id actor) = true
needs_no_memory (Text actor sessions channels trees message) = true
needs_no_memory edit = false

-- it sets a policy
abbrev pub sets_policy : Edit → Bool
sets_policy (SetAcl channel actor policy) = true
sets_policy edit = false

-- it sets the session's tokens
abbrev pub sets_tokens_of : Edit → User → Bool
sets_tokens_of (SetTokens session tokens) user = has_number session user
sets_tokens_of edit user = false

abbrev pub is_empty : {X : Type 0} → List X → Bool
is_empty xs = length xs == 0

-- it makes, moves or removes channels, or sets a policy
abbrev pub changes_paths : Edit → Bool
changes_paths (MakeChannel id parent name temporary info maker) = true
changes_paths (RemoveChannel id actor) = true
changes_paths (SetAcl channel actor policy) = true
changes_paths edit = option_map_or (λ channel. is_some channel.change.parent) (channel_edit edit) false

-- it moves the channel, or changes its links
abbrev pub changes_ways : ChannelEdit → Bool
changes_ways edit =
    not (is_none edit.change.parent && is_empty edit.change.links_add && is_empty edit.change.links_remove)

-- it changes where the session is, to what it listens, or whether it speaks or hears
abbrev pub changes_hearing : SessionEdit → Bool
changes_hearing edit =
    not (is_none edit.change.channel && is_none edit.change.flags.mute && is_none edit.change.flags.deaf
    && not edit.clear_suppress
    && is_none edit.change.flags.self_mute && is_none edit.change.flags.self_deaf
    && is_empty edit.change.listen && is_empty edit.change.unlisten)

-- it is none that changes nothing but what no route reads
abbrev pub changes_routes : Edit → Bool
changes_routes (SetServer welcome bandwidth password) = false
changes_routes (AddAccount account name digest) = false
changes_routes (Text actor sessions channels trees message) = false
changes_routes edit = by_parts changes_ways changes_hearing true edit
