-- Who is sent what of an edit, in which order.
use Rattle.std.specs.Prelude.{not, Bool, List, [], ◌++◌, map, filter, ⊤}
use Rattle.std.specs.List.{flat_map}
use Rattle.mum_base.specs.declared.number.SessionId.{SessionId}
use Rattle.mum_users.specs.{Sessions.session_of, State.has_number}
use Rattle.mum_users.specs.declared.user.User.{User}
use Rattle.mum_state.specs.declared.edit.Edit.{Edit, TheVariants.Join, TheVariants.Kick, TheVariants.Text}
use Rattle.mum_state.specs.{Kinds.is_empty, Named.given, State.StateValue}
use Rattle.mum_notify.specs.{Channels.channel_changes_told, Channels.new_channels_told, Sync.sync_block}
use Rattle.mum_notify.specs.Texts.{permission_parcels, text_parcels, text_told}
use Rattle.mum_notify.specs.Users.{user_changes_told, user_told}
use Rattle.mum_notify.specs.Gone.{channel_gone, channels_gone, departure, user_kicked}
use Rattle.mum_notify.specs.Parcels.{IsWithinFrame, all_to_each, channel_frame, channel_gone_frame, text_payload, to_each, user_frame, user_gone_payload}
use Rattle.mum_notify.specs.declared.notice.Notice.{Notice}

abbrev pub others : StateValue → SessionId → List User
others state session = filter (λ user. not (has_number session user)) state.roster.sessions

-- who joins is sent all, and then the others are notified of the newcomer
abbrev pub arrival : StateValue → Edit → List Notice
arrival after (Join session slot name account tokens) =
    sync_block after session
    ++ flat_map (λ user. to_each (others after session) (user_frame (user_told after.roster user)))
    (given (session_of after.roster session))
arrival after edit = []

-- the edit takes a channel away
abbrev pub closes : StateValue → Edit → StateValue → Bool
closes before edit after = not (is_empty (channels_gone before edit after))

-- Who is sent what: a channel that is new; channels that are others; who arrives; sessions that are others; channels
-- that are gone; who goes; a text; and permissions. All who are there after it are notified, but where another list is
-- given.
abbrev pub notices : StateValue → Edit → StateValue → List Notice
notices before edit after =
    let here : List User = after.roster.sessions in
    all_to_each here (map channel_frame (new_channels_told after edit))
    ++ all_to_each here (map channel_frame (channel_changes_told before edit after))
    ++ arrival after edit
    ++ all_to_each here (map user_frame (user_changes_told before edit after (closes before edit after)))
    ++ all_to_each here (map (λ id. channel_gone_frame (channel_gone id)) (channels_gone before edit after))
    ++ departure before edit after
    ++ text_parcels after edit
    ++ permission_parcels after edit

-- what the edit itself says fits a frame; all else of a state does
abbrev pub FitsFrame : Edit → Type 0
FitsFrame (Kick session actor reason ban) = IsWithinFrame (user_gone_payload (user_kicked session actor reason ban))
FitsFrame (Text actor sessions channels trees message) =
    IsWithinFrame (text_payload (text_told actor sessions channels trees message))
FitsFrame edit = ⊤
