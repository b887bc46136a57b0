-- What an edit of a session and an edit of a channel are, by their parts.
use Rattle.mum_state.proofs.Common.{◌≡◌, ◌&&◌, Bool, true, false, List, [], ◌∷◌, refl, sym, ap, subst, ◌∙◌, Option, Some, None, is_none, option_map, and_parts, none-some, same_Some, ChannelId, SessionId, Change, fault_of_edit, User, UserEdit, edit_fault, edited, is_context, Edit, EditChannel, SetUser, edits_channel_properly, edits_session_properly, fits, holds_of_given, sets_properly, sets_tokens_of, named_sessions, ChannelEdit, SessionEdit, channel_change, channel_edit, session_edit, user_change, is_name, is_text, set_by, StateValue}
use Rattle.mum_state.proofs.{Fitting.fit_parts, Givens.none_is}

-- what it is to be an edit of this session
pub record IsOfSession (state : StateValue) (edit : Edit) (user : SessionEdit) : Type 0 where
  pub names : named_sessions edit ≡ user.session ∷ user.actor ∷ []
  pub no_tokens : (one : User) → sets_tokens_of edit one ≡ false
  pub properly : sets_properly state edit ≡ edits_session_properly state user
  pub sets : set_by state edit ≡ record state { roster = edited state.roster user.session user.change }

pub of_session : (state : StateValue) (edit : Edit) (user : SessionEdit) → session_edit edit ≡ Some user → IsOfSession state edit user
of_session state (SetUser session actor channel mute deaf clear_suppress priority self_mute self_deaf recording comment context listen unlisten) user is =
    subst (IsOfSession state (SetUser session actor channel mute deaf clear_suppress priority self_mute self_deaf recording comment context listen unlisten))
    (same_Some _ _ is) (record { names = refl; no_tokens = λ one. refl; properly = refl; sets = refl })
of_session state edit user is = absurd (none-some _ is)

-- the same of an edit of a channel, as far as it is needed
pub channel_properly : (state : StateValue) (edit : Edit) (channel : ChannelEdit) → channel_edit edit ≡ Some channel → sets_properly state edit ≡ edits_channel_properly state channel
channel_properly state (EditChannel id actor name parent description position max_users links_add links_remove) channel is =
    ap (edits_channel_properly state) (same_Some _ _ is)
channel_properly state edit channel is = absurd (none-some _ is)

-- no cause refuses the change of a session by an edit that fits
pub user_fits : (state : StateValue) (edit : Edit) (session : SessionId) (change : UserEdit) → fits state edit ≡ true
    → option_map (λ user. user.session) (session_edit edit) ≡ Some session → Some change ≡ user_change edit → edit_fault state.roster session change ≡ None
user_fits state edit session change fit named same = step (session_edit edit) refl named same
  where
    step : (given : Option SessionEdit) → session_edit edit ≡ given → option_map (λ user. user.session) given ≡ Some session
        → Some change ≡ option_map (λ user. user.change) given → edit_fault state.roster session change ≡ None
    step None is at to = absurd (none-some _ at)
    step (Some user) is at to =
        let sets : edits_session_properly state user ≡ true = sym (of_session state edit user is).properly ∙ (fit_parts state edit fit).sets in
        let none : Bool = is_none (edit_fault state.roster user.session user.change) in
        let allowed = and_parts none (holds_of_given is_text user.change.comment)
        (and_parts (none && holds_of_given is_text user.change.comment) (holds_of_given is_context user.change.context) sets).0 in
        ap (λ (one : SessionId). edit_fault state.roster one change) (sym (same_Some _ _ at))
        ∙ ap (edit_fault state.roster user.session) (same_Some _ _ to)
        ∙ none_is (edit_fault state.roster user.session user.change) allowed.0

-- nor the change of a channel
pub channel_fits : (state : StateValue) (edit : Edit) (id : ChannelId) (change : Change) → fits state edit ≡ true
    → option_map (λ channel. channel.channel) (channel_edit edit) ≡ Some id → Some change ≡ channel_change edit → fault_of_edit state.tree id change ≡ None
channel_fits state edit id change fit named same = step (channel_edit edit) refl named same
  where
    step : (given : Option ChannelEdit) → channel_edit edit ≡ given → option_map (λ channel. channel.channel) given ≡ Some id
        → Some change ≡ option_map (λ channel. channel.change) given → fault_of_edit state.tree id change ≡ None
    step None is at to = absurd (none-some _ at)
    step (Some channel) is at to =
        let sets : edits_channel_properly state channel ≡ true = sym (channel_properly state edit channel is) ∙ (fit_parts state edit fit).sets in
        let none : Bool = is_none (fault_of_edit state.tree channel.channel channel.change) in
        let allowed = and_parts none (holds_of_given is_name channel.change.name)
        (and_parts (none && holds_of_given is_name channel.change.name) (holds_of_given is_text channel.change.description) sets).0 in
        ap (λ (one : ChannelId). fault_of_edit state.tree one change) (sym (same_Some _ _ at))
        ∙ ap (fault_of_edit state.tree channel.channel) (same_Some _ _ to)
        ∙ none_is (fault_of_edit state.tree channel.channel channel.change) allowed.0
