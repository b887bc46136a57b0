-- What a user of an exercise asks for, as frames on the wire.
use Rattle.std.specs.Prelude.{ℕ, ◌+◌, Bool, true, List, [], ◌∷◌, ◌++◌, Some, None, codes, decimal}
use Rattle.mum_frame.specs.Frame.{spelling_of}
use Rattle.mum_frame.specs.declared.kind.TheConstants.{AUTHENTICATE, CHANNEL_STATE, UDP_TUNNEL, USER_STATE, VOICE_TARGET}
use Rattle.mum_fields.specs.Table.{spelled}
use Rattle.mum_voice.specs.Varint.{shortest_word}
use Rattle.mum_msg_state.specs.Messages.{authenticate, channel_state, user_state}
use Rattle.mum_msg_state.specs.declared.authenticate.Authenticate.{Authenticate}
use Rattle.mum_msg_state.specs.declared.{channel_state.ChannelState.ChannelState, user_state.UserState.UserState}
use Rattle.mum_msg_rule.specs.Messages.{voice_target}
use Rattle.mum_msg_rule.specs.declared.voice_target.VoiceTarget.{VoiceTarget}

-- ---- messages

-- messages that say nothing
abbrev pub blank_user : UserState
blank_user = record {
  session = None;
  actor = None;
  name = None;
  user_id = None;
  channel_id = None;
  mute = None;
  deaf = None;
  suppress = None;
  self_mute = None;
  self_deaf = None;
  plugin_context = None;
  plugin_identity = None;
  comment = None;
  priority_speaker = None;
  recording = None;
  temporary_access_tokens = [];
  listening_channel_add = [];
  listening_channel_remove = [];
}

abbrev pub blank_channel : ChannelState
blank_channel = record {
  channel_id = None;
  parent = None;
  name = None;
  links = [];
  description = None;
  links_add = [];
  links_remove = [];
  temporary = None;
  position = None;
  max_users = None;
}

-- the login under a name
abbrev pub login : List ℕ → Authenticate
login name = record { username = Some name; password = None; tokens = []; celt_versions = []; opus = None }

abbrev pub entering : ℕ → UserState
entering channel = record blank_user { channel_id = Some channel }

abbrev pub self_muting : Bool → UserState
self_muting muted = record blank_user { self_mute = Some muted }

abbrev pub listening : ℕ → UserState
listening channel = record blank_user { listening_channel_add = channel ∷ [] }

-- the channel is linked with the root
abbrev pub linking : ℕ → ChannelState
linking channel = record blank_channel { channel_id = Some channel; links_add = 0 ∷ [] }

-- the first voice target is a channel and those below it
abbrev pub aiming : ℕ → VoiceTarget
aiming channel = record {
  id = Some 1;
  targets = record { session = []; channel_id = Some channel; group = None; links = None; children = Some true } ∷ [];
}

-- ---- frames

-- user i is called u and i
abbrev pub user_name : ℕ → List ℕ
user_name i = codes "u" ++ decimal i

abbrev pub login_frame : ℕ → List ℕ
login_frame i = spelling_of AUTHENTICATE (spelled authenticate (login (user_name i)))

abbrev pub user_frame : UserState → List ℕ
user_frame message = spelling_of USER_STATE (spelled user_state message)

abbrev pub channel_frame : ChannelState → List ℕ
channel_frame message = spelling_of CHANNEL_STATE (spelled channel_state message)

abbrev pub target_frame : VoiceTarget → List ℕ
target_frame message = spelling_of VOICE_TARGET (spelled voice_target message)

-- the voice packet of a round: Opus to a target, numbered by the round, and four bytes of it
abbrev pub packet_bytes : ℕ → ℕ → List ℕ
packet_bytes target number = (0x80 + target) ∷ shortest_word number ++ 0x03 ∷ 0xaa ∷ 0xbb ∷ 0xcc ∷ []

abbrev pub voice_frame : ℕ → ℕ → List ℕ
voice_frame target number = spelling_of UDP_TUNNEL (packet_bytes target number)
