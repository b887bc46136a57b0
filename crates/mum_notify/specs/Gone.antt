-- What is reported of channels and sessions that go.
use Rattle.std.specs.Prelude.{ℕ, ◌==◌, ◌&&◌, ◌||◌, not, Bool, List, [], map, filter, Some, None}
use Rattle.mum_base.specs.declared.number.{ChannelId.ChannelId, SessionId.SessionId}
use Rattle.mum_tree.specs.{Rows.is_temporary, Rows.is_there, State.TreeState}
use Rattle.mum_users.specs.declared.user.User.{User}
use Rattle.mum_msg_state.specs.declared.{channel_remove.ChannelRemove.ChannelRemove, user_remove.UserRemove.UserRemove}
use Rattle.mum_state.specs.declared.edit.Edit.{Edit, TheVariants.Kick, TheVariants.Leave, TheVariants.RemoveChannel}
use Rattle.mum_state.specs.{Followed.left_by, Kinds.is_empty, Named.given, State.StateValue}
use Rattle.mum_notify.specs.Channels.{channel_ids, said_unless}
use Rattle.mum_notify.specs.{Parcels.parcel, Parcels.to_each, Parcels.user_gone_frame, Users.said_if_set}
use Rattle.mum_notify.specs.declared.notice.Notice.{Notice}

-- ---- channels

-- it is gone, and is reported: the topmost, and each temporary one
abbrev pub is_told_gone : ChannelId → TreeState → TreeState → ChannelId → Bool
is_told_gone top before after id =
    ((id.0 == top.0) || is_temporary before.channels id) && not (is_there after.channels id)

-- the channels whose going is reported, in order of number: where one is removed, it and the temporary ones below it;
-- else a temporary one that the edit emptied
abbrev pub channels_gone : StateValue → Edit → StateValue → List ChannelId
channels_gone before (RemoveChannel id actor) after =
    filter (is_told_gone id before.tree after.tree) (channel_ids before.tree)
channels_gone before edit after = filter (λ id. not (is_there after.tree.channels id)) (given (left_by before edit))

abbrev pub channel_gone : ChannelId → ChannelRemove
channel_gone id = record { channel_id = Some id.0 }

-- ---- sessions

abbrev pub user_left : SessionId → UserRemove
user_left session = record { session = Some session.0; actor = None; reason = None; ban = None }

abbrev pub user_kicked : SessionId → SessionId → List ℕ → Bool → UserRemove
user_kicked session actor reason ban = record {
  session = Some session.0;
  actor = Some actor.0;
  reason = said_unless (is_empty reason) reason;
  ban = said_if_set ban;
}

-- the last that this session gets
abbrev pub last_parcel : SessionId → List ℕ → User → Notice
last_parcel session frame user = record (parcel frame user) { last = user.session.0 == session.0 }

-- one that leaves is reported to those that are left, one that is kicked to all that were there
abbrev pub departure : StateValue → Edit → StateValue → List Notice
departure before (Leave session) after = to_each after.roster.sessions (user_gone_frame (user_left session))
departure before (Kick session actor reason ban) after =
    map (last_parcel session (user_gone_frame (user_kicked session actor reason ban))) before.roster.sessions
departure before edit after = []
