-- Messages as bytes on the wire, and the parcels that bring them.
use Rattle.std.specs.Prelude.{ℕ, ◌≤◌, false, List, length, map}
use Rattle.std.specs.List.{flat_map}
use Rattle.mum_frame.specs.Frame.{spelling_of}
use Rattle.mum_frame.specs.declared.frame.TheConstants.{PAYLOAD_LIMIT}
use Rattle.mum_frame.specs.declared.kind.TheConstants.{CHANNEL_REMOVE, CHANNEL_STATE, CODEC_VERSION, PERMISSION_QUERY, SERVER_SYNC, TEXT_MESSAGE, USER_REMOVE, USER_STATE, VERSION}
use Rattle.mum_fields.specs.Table.{spelled}
use Rattle.mum_users.specs.declared.user.User.{User}
use Rattle.mum_msg_state.specs.Messages.{channel_remove, channel_state, codec_version, server_sync, user_remove, user_state, version}
use Rattle.mum_msg_state.specs.declared.channel_remove.ChannelRemove.{ChannelRemove}
use Rattle.mum_msg_state.specs.declared.channel_state.ChannelState.{ChannelState}
use Rattle.mum_msg_state.specs.declared.{codec_version.CodecVersion.CodecVersion, server_sync.ServerSync.ServerSync}
use Rattle.mum_msg_state.specs.declared.{user_remove.UserRemove.UserRemove, user_state.UserState.UserState}
use Rattle.mum_msg_state.specs.declared.version.Version.{Version}
use Rattle.mum_msg_rule.specs.Messages.{permission_query, text_message}
use Rattle.mum_msg_rule.specs.declared.permission_query.PermissionQuery.{PermissionQuery}
use Rattle.mum_msg_rule.specs.declared.text_message.TextMessage.{TextMessage}
use Rattle.mum_notify.specs.declared.notice.Notice.{Notice}

-- ---- messages as payloads, and each as a frame of its type

unfoldable pub version_payload : Version → List ℕ
version_payload message = spelled version message

abbrev pub version_frame : Version → List ℕ
version_frame message = spelling_of VERSION (version_payload message)

unfoldable pub codecs_payload : CodecVersion → List ℕ
codecs_payload message = spelled codec_version message

abbrev pub codecs_frame : CodecVersion → List ℕ
codecs_frame message = spelling_of CODEC_VERSION (codecs_payload message)

unfoldable pub channel_payload : ChannelState → List ℕ
channel_payload message = spelled channel_state message

abbrev pub channel_frame : ChannelState → List ℕ
channel_frame message = spelling_of CHANNEL_STATE (channel_payload message)

unfoldable pub channel_gone_payload : ChannelRemove → List ℕ
channel_gone_payload message = spelled channel_remove message

abbrev pub channel_gone_frame : ChannelRemove → List ℕ
channel_gone_frame message = spelling_of CHANNEL_REMOVE (channel_gone_payload message)

unfoldable pub user_payload : UserState → List ℕ
user_payload message = spelled user_state message

abbrev pub user_frame : UserState → List ℕ
user_frame message = spelling_of USER_STATE (user_payload message)

unfoldable pub user_gone_payload : UserRemove → List ℕ
user_gone_payload message = spelled user_remove message

abbrev pub user_gone_frame : UserRemove → List ℕ
user_gone_frame message = spelling_of USER_REMOVE (user_gone_payload message)

unfoldable pub sync_payload : ServerSync → List ℕ
sync_payload message = spelled server_sync message

abbrev pub sync_frame : ServerSync → List ℕ
sync_frame message = spelling_of SERVER_SYNC (sync_payload message)

unfoldable pub text_payload : TextMessage → List ℕ
text_payload message = spelled text_message message

abbrev pub text_frame : TextMessage → List ℕ
text_frame message = spelling_of TEXT_MESSAGE (text_payload message)

unfoldable pub permissions_payload : PermissionQuery → List ℕ
permissions_payload message = spelled permission_query message

abbrev pub permissions_frame : PermissionQuery → List ℕ
permissions_frame message = spelling_of PERMISSION_QUERY (permissions_payload message)

-- a payload that one frame takes
abbrev pub IsWithinFrame : List ℕ → Type 0
IsWithinFrame payload = length payload ≤ PAYLOAD_LIMIT

-- ---- parcels

abbrev pub parcel : List ℕ → User → Notice
parcel frame user = record { to = user.session; slot = user.slot; bytes = frame; last = false }

-- one frame to each of these sessions, in their order
abbrev pub to_each : List User → List ℕ → List Notice
to_each users frame = map (parcel frame) users

-- each frame to each of these sessions: the first to all of them, then the second to all of them, and so on
abbrev pub all_to_each : List User → List (List ℕ) → List Notice
all_to_each users frames = flat_map (to_each users) frames
