-- The messages of this crate, field by field as Mumble.proto has them: a reader checks each row's label, type,
-- name and number against it.
use Rattle.std.specs.Prelude.{[], ◌∷◌}
use Rattle.mum_fields.specs.Table.{Table, optional, required, repeated, uint32, uint64, int32, bool, string, bytes}
use Rattle.mum_msg_state.specs.declared.{ping.Ping.Ping, version.Version.Version}
use Rattle.mum_msg_state.specs.declared.{authenticate.Authenticate.Authenticate, reject.Reject.Reject}
use Rattle.mum_msg_state.specs.declared.{server_sync.ServerSync.ServerSync, codec_version.CodecVersion.CodecVersion}
use Rattle.mum_msg_state.specs.declared.{channel_remove.ChannelRemove.ChannelRemove, user_remove.UserRemove.UserRemove}
use Rattle.mum_msg_state.specs.declared.{channel_state.ChannelState.ChannelState, user_state.UserState.UserState}

abbrev pub ping : Table Ping
ping = optional uint64 1 (λ m. m.timestamp)
    ∷ []

abbrev pub version : Table Version
version = optional uint32 1 (λ m. m.version)
    ∷ optional string 2 (λ m. m.release)
    ∷ optional string 3 (λ m. m.os)
    ∷ optional string 4 (λ m. m.os_version)
    ∷ []

abbrev pub authenticate : Table Authenticate
authenticate = optional string 1 (λ m. m.username)
    ∷ optional string 2 (λ m. m.password)
    ∷ repeated string 3 (λ m. m.tokens)
    ∷ repeated int32 4 (λ m. m.celt_versions)
    ∷ optional bool 5 (λ m. m.opus)
    ∷ []

-- `kind` is the field `type`, an enum that goes as a uint32
abbrev pub reject : Table Reject
reject = optional uint32 1 (λ m. m.kind)
    ∷ optional string 2 (λ m. m.reason)
    ∷ []

abbrev pub server_sync : Table ServerSync
server_sync = optional uint32 1 (λ m. m.session)
    ∷ optional uint32 2 (λ m. m.max_bandwidth)
    ∷ optional string 3 (λ m. m.welcome_text)
    ∷ optional uint64 4 (λ m. m.permissions)
    ∷ []

abbrev pub codec_version : Table CodecVersion
codec_version = required int32 1 (λ m. m.alpha)
    ∷ required int32 2 (λ m. m.beta)
    ∷ required bool 3 (λ m. m.prefer_alpha)
    ∷ optional bool 4 (λ m. m.opus)
    ∷ []

abbrev pub channel_remove : Table ChannelRemove
channel_remove = required uint32 1 (λ m. m.channel_id)
    ∷ []

abbrev pub user_remove : Table UserRemove
user_remove = required uint32 1 (λ m. m.session)
    ∷ optional uint32 2 (λ m. m.actor)
    ∷ optional string 3 (λ m. m.reason)
    ∷ optional bool 4 (λ m. m.ban)
    ∷ []

abbrev pub channel_state : Table ChannelState
channel_state = optional uint32 1 (λ m. m.channel_id)
    ∷ optional uint32 2 (λ m. m.parent)
    ∷ optional string 3 (λ m. m.name)
    ∷ repeated uint32 4 (λ m. m.links)
    ∷ optional string 5 (λ m. m.description)
    ∷ repeated uint32 6 (λ m. m.links_add)
    ∷ repeated uint32 7 (λ m. m.links_remove)
    ∷ optional bool 8 (λ m. m.temporary)
    ∷ optional int32 9 (λ m. m.position)
    ∷ optional uint32 11 (λ m. m.max_users)
    ∷ []

abbrev pub user_state : Table UserState
user_state = optional uint32 1 (λ m. m.session)
    ∷ optional uint32 2 (λ m. m.actor)
    ∷ optional string 3 (λ m. m.name)
    ∷ optional uint32 4 (λ m. m.user_id)
    ∷ optional uint32 5 (λ m. m.channel_id)
    ∷ optional bool 6 (λ m. m.mute)
    ∷ optional bool 7 (λ m. m.deaf)
    ∷ optional bool 8 (λ m. m.suppress)
    ∷ optional bool 9 (λ m. m.self_mute)
    ∷ optional bool 10 (λ m. m.self_deaf)
    ∷ optional bytes 12 (λ m. m.plugin_context)
    ∷ optional string 13 (λ m. m.plugin_identity)
    ∷ optional string 14 (λ m. m.comment)
    ∷ optional bool 18 (λ m. m.priority_speaker)
    ∷ optional bool 19 (λ m. m.recording)
    ∷ repeated string 20 (λ m. m.temporary_access_tokens)
    ∷ repeated uint32 21 (λ m. m.listening_channel_add)
    ∷ repeated uint32 22 (λ m. m.listening_channel_remove)
    ∷ []
