-- A message is described by its parts: each table has a row for each field of the struct.
use Rattle.std.proofs.Common.{◌≡◌, ap, refl}
use Rattle.mum_fields.specs.Table.{Values, layout, parts}
use Rattle.mum_msg_state.specs.declared.{ping.Ping.Ping, version.Version.Version}
use Rattle.mum_msg_state.specs.declared.{authenticate.Authenticate.Authenticate, reject.Reject.Reject}
use Rattle.mum_msg_state.specs.declared.{server_sync.ServerSync.ServerSync, codec_version.CodecVersion.CodecVersion}
use Rattle.mum_msg_state.specs.declared.{channel_remove.ChannelRemove.ChannelRemove, user_remove.UserRemove.UserRemove}
use Rattle.mum_msg_state.specs.declared.{channel_state.ChannelState.ChannelState, user_state.UserState.UserState}
use Rattle.mum_msg_state.specs.Messages.{ping, version, authenticate, reject, server_sync, codec_version, channel_remove, user_remove, channel_state, user_state}

ping_of : Values (layout ping) → Ping
ping_of v = record { timestamp = v.0 }

pub ping_told : (m n : Ping) → parts ping m ≡ parts ping n → m ≡ n
unfolding ping_of
ping_told m n h = ap ping_of h

version_of : Values (layout version) → Version
version_of v = record { version = v.0; release = v.1.0; os = v.1.1.0; os_version = v.1.1.1.0 }

pub version_told : (m n : Version) → parts version m ≡ parts version n → m ≡ n
unfolding version_of
version_told m n h = ap version_of h

-- the message that has these values
unfoldable pub authenticate_of : Values (layout authenticate) → Authenticate
authenticate_of v = record {
  username = v.0;
  password = v.1.0;
  tokens = v.1.1.0;
  celt_versions = v.1.1.1.0;
  opus = v.1.1.1.1.0;
}

pub authenticate_told : (m n : Authenticate) → parts authenticate m ≡ parts authenticate n → m ≡ n
unfolding authenticate_of
authenticate_told m n h = ap authenticate_of h

pub authenticate_back : (m : Authenticate) → authenticate_of (parts authenticate m) ≡ m
unfolding authenticate_of
authenticate_back m = refl

reject_of : Values (layout reject) → Reject
reject_of v = record { kind = v.0; reason = v.1.0 }

pub reject_told : (m n : Reject) → parts reject m ≡ parts reject n → m ≡ n
unfolding reject_of
reject_told m n h = ap reject_of h

server_sync_of : Values (layout server_sync) → ServerSync
server_sync_of v = record {
  session = v.0;
  max_bandwidth = v.1.0;
  welcome_text = v.1.1.0;
  permissions = v.1.1.1.0;
}

pub server_sync_told : (m n : ServerSync) → parts server_sync m ≡ parts server_sync n → m ≡ n
unfolding server_sync_of
server_sync_told m n h = ap server_sync_of h

codec_version_of : Values (layout codec_version) → CodecVersion
codec_version_of v = record { alpha = v.0; beta = v.1.0; prefer_alpha = v.1.1.0; opus = v.1.1.1.0 }

pub codec_version_told : (m n : CodecVersion) → parts codec_version m ≡ parts codec_version n → m ≡ n
unfolding codec_version_of
codec_version_told m n h = ap codec_version_of h

-- the message that has these values
unfoldable pub channel_remove_of : Values (layout channel_remove) → ChannelRemove
channel_remove_of v = record { channel_id = v.0 }

pub channel_remove_told : (m n : ChannelRemove) → parts channel_remove m ≡ parts channel_remove n → m ≡ n
unfolding channel_remove_of
channel_remove_told m n h = ap channel_remove_of h

pub channel_remove_back : (m : ChannelRemove) → channel_remove_of (parts channel_remove m) ≡ m
unfolding channel_remove_of
channel_remove_back m = refl

-- the message that has these values
unfoldable pub user_remove_of : Values (layout user_remove) → UserRemove
user_remove_of v = record { session = v.0; actor = v.1.0; reason = v.1.1.0; ban = v.1.1.1.0 }

pub user_remove_told : (m n : UserRemove) → parts user_remove m ≡ parts user_remove n → m ≡ n
unfolding user_remove_of
user_remove_told m n h = ap user_remove_of h

pub user_remove_back : (m : UserRemove) → user_remove_of (parts user_remove m) ≡ m
unfolding user_remove_of
user_remove_back m = refl

-- the message that has these values
unfoldable pub channel_state_of : Values (layout channel_state) → ChannelState
channel_state_of v = record {
  channel_id = v.0;
  parent = v.1.0;
  name = v.1.1.0;
  links = v.1.1.1.0;
  description = v.1.1.1.1.0;
  links_add = v.1.1.1.1.1.0;
  links_remove = v.1.1.1.1.1.1.0;
  temporary = v.1.1.1.1.1.1.1.0;
  position = v.1.1.1.1.1.1.1.1.0;
  max_users = v.1.1.1.1.1.1.1.1.1.0;
}

pub channel_state_told : (m n : ChannelState) → parts channel_state m ≡ parts channel_state n → m ≡ n
unfolding channel_state_of
channel_state_told m n h = ap channel_state_of h

pub channel_state_back : (m : ChannelState) → channel_state_of (parts channel_state m) ≡ m
unfolding channel_state_of
channel_state_back m = refl

-- the message that has these values
unfoldable pub user_state_of : Values (layout user_state) → UserState
user_state_of v = record {
  session = v.0;
  actor = v.1.0;
  name = v.1.1.0;
  user_id = v.1.1.1.0;
  channel_id = v.1.1.1.1.0;
  mute = v.1.1.1.1.1.0;
  deaf = v.1.1.1.1.1.1.0;
  suppress = v.1.1.1.1.1.1.1.0;
  self_mute = v.1.1.1.1.1.1.1.1.0;
  self_deaf = v.1.1.1.1.1.1.1.1.1.0;
  plugin_context = v.1.1.1.1.1.1.1.1.1.1.0;
  plugin_identity = v.1.1.1.1.1.1.1.1.1.1.1.0;
  comment = v.1.1.1.1.1.1.1.1.1.1.1.1.0;
  priority_speaker = v.1.1.1.1.1.1.1.1.1.1.1.1.1.0;
  recording = v.1.1.1.1.1.1.1.1.1.1.1.1.1.1.0;
  temporary_access_tokens = v.1.1.1.1.1.1.1.1.1.1.1.1.1.1.1.0;
  listening_channel_add = v.1.1.1.1.1.1.1.1.1.1.1.1.1.1.1.1.0;
  listening_channel_remove = v.1.1.1.1.1.1.1.1.1.1.1.1.1.1.1.1.1.0;
}

pub user_state_told : (m n : UserState) → parts user_state m ≡ parts user_state n → m ≡ n
unfolding user_state_of
user_state_told m n h = ap user_state_of h

pub user_state_back : (m : UserState) → user_state_of (parts user_state m) ≡ m
unfolding user_state_of
user_state_back m = refl
