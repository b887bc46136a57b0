-- Whom and what an edit names that must be there.
use Rattle.std.specs.Prelude.{◌&&◌, Bool, true, List, [], ◌∷◌, ◌++◌, Option, None}
use Rattle.std.specs.{List.list_all, List.list_any, Option.option_map_or}
use Rattle.mum_base.specs.declared.number.{AccountId.AccountId, ChannelId.ChannelId, SessionId.SessionId}
use Rattle.mum_tree.specs.Rows.{is_there}
use Rattle.mum_users.specs.State.{has_number}
use Rattle.mum_state.specs.declared.edit.Edit.{Edit}
use Rattle.mum_state.specs.declared.edit.Edit.TheVariants.{Join, Kick, Leave, MakeChannel, RemoveChannel, SetAcl, SetTarget, SetTokens, Text}
use Rattle.mum_state.specs.{Parts.by_parts, State.StateValue, State.has_account}

-- the value that is given, or none
abbrev pub given : {X : Type 0} → Option X → List X
given value = option_map_or (λ x. x ∷ []) value []

-- the sessions of a text and of a voice target are no part of them: these need not be there
abbrev pub named_sessions : Edit → List SessionId
named_sessions (Leave session) = session ∷ []
named_sessions (Kick session actor reason ban) = session ∷ actor ∷ []
named_sessions (MakeChannel id parent name temporary info maker) = given maker
named_sessions (RemoveChannel id actor) = actor ∷ []
named_sessions (SetTokens session tokens) = session ∷ []
named_sessions (SetTarget session id target) = session ∷ []
named_sessions (SetAcl channel actor policy) = given actor
named_sessions (Text actor sessions channels trees message) = actor ∷ []
named_sessions edit = by_parts (λ channel. given channel.actor) (λ user. user.session ∷ user.actor ∷ []) [] edit

-- nor are the channels of a text and of a voice target
abbrev pub named_channels : Edit → List ChannelId
named_channels (MakeChannel id parent name temporary info maker) = parent ∷ []
named_channels (RemoveChannel id actor) = id ∷ []
named_channels (SetAcl channel actor policy) = channel ∷ []
named_channels edit =
    by_parts (λ channel. channel.channel
    ∷ (given channel.change.parent ++ channel.change.links_add ++ channel.change.links_remove))
    (λ user. given user.change.channel ++ user.change.listen ++ user.change.unlisten) [] edit

-- nor are the accounts of a policy
abbrev pub named_account : Edit → Option AccountId
named_account (Join session slot name account tokens) = account
named_account edit = None

-- whom and what the edit names is there
abbrev pub names_there : StateValue → Edit → Bool
names_there state edit =
    list_all (λ session. list_any (has_number session) state.roster.sessions) (named_sessions edit)
    && list_all (is_there state.tree.channels) (named_channels edit)
    && option_map_or (has_account state) (named_account edit) true
