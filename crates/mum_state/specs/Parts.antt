-- Edits of several parts, as the tree and the roster know them.
use Rattle.std.specs.Prelude.{ℕ, ℤ, Bool, List, Option, Some, None}
use Rattle.std.specs.Option.{option_map, option_map_or}
use Rattle.mum_base.specs.declared.number.{ChannelId.ChannelId, SessionId.SessionId}
use Rattle.mum_tree.specs.Change.{Change}
use Rattle.mum_users.specs.Edit.{UserEdit}
use Rattle.mum_state.specs.declared.edit.Edit.{Edit, TheVariants.EditChannel, TheVariants.SetUser}

-- these parts of a channel become others
abbrev pub channel_parts : Option (List ℕ) → Option ChannelId → Option (List ℕ) → Option ℤ → Option ℕ → List ChannelId
    → List ChannelId → Change
channel_parts name parent description position max_users links_add links_remove = record {
  name = name;
  parent = parent;
  description = description;
  position = position;
  max_users = max_users;
  links_add = links_add;
  links_remove = links_remove;
}

-- these parts of a session become others; whether it may speak where it is, is none of them
abbrev pub user_parts : Option ChannelId → Option Bool → Option Bool → Option Bool → Option Bool → Option Bool
    → Option Bool
    → Option (List ℕ) → Option (List ℕ) → List ChannelId → List ChannelId → UserEdit
user_parts channel mute deaf priority self_mute self_deaf recording comment context listen unlisten = record {
  channel = channel;
  flags = record {
    mute = mute;
    deaf = deaf;
    suppress = None;
    self_mute = self_mute;
    self_deaf = self_deaf;
    priority = priority;
    recording = recording;
  };
  comment = comment;
  context = context;
  listen = listen;
  unlisten = unlisten;
}

-- an edit of a channel: by whom, of which one, and what changes
pub record ChannelEdit : Type 0 where
  pub channel : ChannelId
  pub actor : Option SessionId
  pub change : Change

-- an edit of a session: by whom, of which one, what changes, and whether it may then speak where it is
pub record SessionEdit : Type 0 where
  pub session : SessionId
  pub actor : SessionId
  pub change : UserEdit
  pub clear_suppress : Bool

-- the edit as one of a channel, if it is one
abbrev pub channel_edit : Edit → Option ChannelEdit
channel_edit (EditChannel id actor name parent description position max_users links_add links_remove) = Some (record {
  channel = id;
  actor = actor;
  change = channel_parts name parent description position max_users links_add links_remove;
})
channel_edit edit = None

-- the edit as one of a session, if it is one
abbrev pub session_edit : Edit → Option SessionEdit
session_edit (SetUser session actor channel mute deaf clear_suppress priority self_mute self_deaf recording comment context listen unlisten) = Some (record {
  session = session;
  actor = actor;
  change = user_parts channel mute deaf priority self_mute self_deaf recording comment context listen unlisten;
  clear_suppress = clear_suppress;
})
session_edit edit = None

-- one answer for an edit of a channel, one for an edit of a session, and one for every other edit
abbrev pub by_parts : {X : Type 0} → (ChannelEdit → X) → (SessionEdit → X) → X → Edit → X
by_parts of_channel of_session otherwise edit =
    option_map_or of_channel (channel_edit edit) (option_map_or of_session (session_edit edit) otherwise)

-- what an edit changes of a channel
abbrev pub channel_change : Edit → Option Change
channel_change edit = option_map (λ channel. channel.change) (channel_edit edit)

-- what an edit changes of a session
abbrev pub user_change : Edit → Option UserEdit
user_change edit = option_map (λ user. user.change) (session_edit edit)
