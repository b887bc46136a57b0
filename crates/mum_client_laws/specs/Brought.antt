-- What notices bring to a session: frames, and the messages that they are.
use Rattle.std.specs.Prelude.{◌≡◌, ℕ, ◌==◌, List, filter, map}
use Rattle.mum_base.specs.declared.number.SessionId.{SessionId}
use Rattle.mum_frame.specs.Frame.{spelling_of}
use Rattle.mum_frame.specs.declared.kind.TheConstants.{CHANNEL_REMOVE, CHANNEL_STATE, CODEC_VERSION, PERMISSION_QUERY, SERVER_SYNC, TEXT_MESSAGE, USER_REMOVE, USER_STATE, VERSION}
use Rattle.mum_fields.specs.Table.{spelled}
use Rattle.mum_msg_state.specs.Messages.{channel_remove, channel_state, codec_version, server_sync, user_remove, user_state, version}
use Rattle.mum_msg_rule.specs.Messages.{permission_query, text_message}
use Rattle.mum_notify.specs.declared.notice.Notice.{Notice}
use Rattle.mum_client_laws.specs.Heard.{Message, OfChannel, OfChannelGone, OfCodecs, OfPermissions, OfSession, OfSessionGone, OfSync, OfText, OfVersion, all_heard}
use Rattle.mum_client_laws.specs.Known.{Known}

-- the message as the frame of its type; a frame is that of one message, since what is written reads back
abbrev pub frame_of : Message → List ℕ
frame_of (OfVersion message) = spelling_of VERSION (spelled version message)
frame_of (OfCodecs message) = spelling_of CODEC_VERSION (spelled codec_version message)
frame_of (OfSync message) = spelling_of SERVER_SYNC (spelled server_sync message)
frame_of (OfChannel message) = spelling_of CHANNEL_STATE (spelled channel_state message)
frame_of (OfChannelGone message) = spelling_of CHANNEL_REMOVE (spelled channel_remove message)
frame_of (OfSession message) = spelling_of USER_STATE (spelled user_state message)
frame_of (OfSessionGone message) = spelling_of USER_REMOVE (spelled user_remove message)
frame_of (OfText message) = spelling_of TEXT_MESSAGE (spelled text_message message)
frame_of (OfPermissions message) = spelling_of PERMISSION_QUERY (spelled permission_query message)

-- the frames for a session, in their order
abbrev pub frames_to : SessionId → List Notice → List (List ℕ)
frames_to session sent = map (λ notice. notice.bytes) (filter (λ notice. notice.to.0 == session.0) sent)

-- by what a session is sent, whoever knew this knows that
abbrev pub Brings : SessionId → List Notice → Known → Known → Type 0
Brings session sent was now =
    (messages : List Message) × (map frame_of messages ≡ frames_to session sent) × (all_heard was messages ≡ now)
