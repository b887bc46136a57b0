-- What a client knows: the channels and their links, the sessions, and who listens to what. A map is the function that
-- looks a number up in it.
use Rattle.std.specs.Prelude.{ℕ, ℤ, Bool, false, List, Option, None}
use Rattle.std.specs.Option.{option_map}
use Rattle.mum_base.specs.declared.number.{ChannelId.ChannelId, SessionId.SessionId}
use Rattle.mum_tree.specs.{Rows.row_of, State.are_linked}
use Rattle.mum_tree.specs.declared.channel.Channel.{Channel}
use Rattle.mum_users.specs.{Listeners.listens, Sessions.session_of}
use Rattle.mum_users.specs.declared.user.User.{User}
use Rattle.mum_state.specs.State.{StateValue}

pub record KnownChannel : Type 0 where
  pub parent : ℕ
  pub name : List ℕ
  pub temporary : Bool
  pub description : List ℕ
  pub position : ℤ
  pub max_users : ℕ

pub record KnownSession : Type 0 where
  pub name : List ℕ
  pub account : Option ℕ
  pub channel : ℕ
  pub mute : Bool
  pub deaf : Bool
  pub suppress : Bool
  pub self_mute : Bool
  pub self_deaf : Bool
  pub priority : Bool
  pub recording : Bool
  pub comment : List ℕ

abbrev pub Channels : Type 0
Channels = ℕ → Option KnownChannel

abbrev pub Sessions : Type 0
Sessions = ℕ → Option KnownSession

-- of two numbers, whether they are a pair
abbrev pub Pairs : Type 0
Pairs = ℕ → ℕ → Bool

pub record Known : Type 0 where
  pub channels : Channels
  -- of two channels, whether they are linked
  pub links : Pairs
  pub sessions : Sessions
  -- of a session and a channel, whether the one listens to the other
  pub listening : Pairs

abbrev pub nothing : Known
nothing = record {
  channels = λ id. None;
  links = λ one other. false;
  sessions = λ session. None;
  listening = λ session channel. false;
}

-- ---- what there is to know of a state

abbrev pub public_channel : Channel → KnownChannel
public_channel channel = record {
  parent = channel.parent.0;
  name = channel.name;
  temporary = channel.temporary;
  description = channel.info.description;
  position = channel.info.position;
  max_users = channel.info.max_users;
}

-- all but its slot, its tokens and its plugin context
abbrev pub public_session : User → KnownSession
public_session user = record {
  name = user.name;
  account = option_map (λ account. account.0) user.account;
  channel = user.channel.0;
  mute = user.mute;
  deaf = user.deaf;
  suppress = user.suppress;
  self_mute = user.self_mute;
  self_deaf = user.self_deaf;
  priority = user.priority;
  recording = user.recording;
  comment = user.comment;
}

abbrev pub numbered_channel : ℕ → ChannelId
numbered_channel number = record { 0 = number }

abbrev pub numbered_session : ℕ → SessionId
numbered_session number = record { 0 = number }

-- all channels and links, all sessions, and to what each of them listens
abbrev pub public : StateValue → Known
public state = record {
  channels = λ id. option_map (λ row. public_channel row.channel) (row_of state.tree.channels (numbered_channel id));
  links = λ one other. are_linked state.tree (numbered_channel one) (numbered_channel other);
  sessions = λ session. option_map public_session (session_of state.roster (numbered_session session));
  listening = λ session channel. listens state.roster (numbered_session session) (numbered_channel channel);
}
