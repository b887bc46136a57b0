-- What a session that joins is sent first.
use Rattle.std.specs.Prelude.{ℕ, pos, true, List, [], ◌∷◌, ◌++◌, map, codes, Some, None}
use Rattle.std.specs.List.{flat_map}
use Rattle.mum_base.specs.declared.number.{ChannelId.ChannelId, SessionId.SessionId, TheConstants.ChannelId.ROOT}
use Rattle.mum_tree.specs.State.{TreeState}
use Rattle.mum_tree.specs.declared.channel.TheConstants.{PATH_LIMIT}
use Rattle.mum_users.specs.Sessions.{session_of}
use Rattle.mum_users.specs.declared.user.User.{User}
use Rattle.mum_msg_state.specs.declared.channel_state.ChannelState.{ChannelState}
use Rattle.mum_msg_state.specs.declared.{codec_version.CodecVersion.CodecVersion, server_sync.ServerSync.ServerSync}
use Rattle.mum_msg_state.specs.declared.version.Version.{Version}
use Rattle.mum_state.specs.{Kinds.is_empty, Named.given, Permissions.actor_from, Permissions.granted_to}
use Rattle.mum_state.specs.State.{StateValue}
use Rattle.mum_notify.specs.Channels.{channel_ids, channel_of, channel_told, children, family, has_links, if_it_tells, links_told, said_unless}
use Rattle.mum_notify.specs.Parcels.{channel_frame, codecs_frame, parcel, sync_frame, user_frame, version_frame}
use Rattle.mum_notify.specs.Users.{user_told}
use Rattle.mum_notify.specs.declared.{notice.Notice.Notice, sync.TheConstants.PROTOCOL}

abbrev pub server_version : Version
server_version = record { version = Some PROTOCOL; release = Some (codes "murmur"); os = None; os_version = None }

-- Opus, and no CELT
abbrev pub server_codecs : CodecVersion
server_codecs = record { alpha = Some (pos 0); beta = Some (pos 0); prefer_alpha = Some true; opus = Some true }

-- a channel before its children, and these by their numbers
abbrev pub tree_order : TreeState → List ChannelId
tree_order tree = family (children tree) PATH_LIMIT ROOT

abbrev pub tree_told : TreeState → List ChannelState
tree_told tree = flat_map (λ id. map channel_told (given (channel_of tree id))) (tree_order tree)

-- of each channel with links, in order of number
abbrev pub all_links_told : TreeState → List ChannelState
all_links_told tree = flat_map (λ id. if_it_tells has_links (links_told tree id)) (channel_ids tree)

abbrev pub welcome_told : StateValue → User → ServerSync
welcome_told state user = record {
  session = Some user.session.0;
  max_bandwidth = Some state.server.bandwidth;
  welcome_text = said_unless (is_empty state.server.welcome) state.server.welcome;
  permissions = Some (granted_to state (actor_from state.tree user) ROOT);
}

abbrev pub sync_frames : StateValue → User → List (List ℕ)
sync_frames state user =
    version_frame server_version ∷ codecs_frame server_codecs
    ∷ map channel_frame (tree_told state.tree)
    ++ map channel_frame (all_links_told state.tree)
    ++ map (λ other. user_frame (user_told state.roster other)) state.roster.sessions
    ++ sync_frame (welcome_told state user) ∷ []

-- each as a parcel to the session
abbrev pub sync_parcels : StateValue → User → List Notice
sync_parcels state user = map (λ frame. parcel frame user) (sync_frames state user)

-- a session that is not there gets nothing
abbrev pub sync_block : StateValue → SessionId → List Notice
sync_block state session = flat_map (sync_parcels state) (given (session_of state.roster session))
