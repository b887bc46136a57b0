-- Each parcel is one whole frame within the limit of a frame.
use Rattle.mum_notify.proofs.Common.{◌≡◌, ℕ, ◌<◌, Bool, true, false, cond, List, [], ◌∷◌, ◌++◌, map, filter, Option, Some, None, refl, arith, All, flat_map, option_map_or, All-append, All-cons, All-map, All-nil, All-weaker, ChannelId, SessionId, IsOneFrame, spelling_of, CHANNEL_REMOVE, CHANNEL_STATE, CODEC_VERSION, PERMISSION_QUERY, SERVER_SYNC, TEXT_MESSAGE, USER_REMOVE, USER_STATE, VERSION, ChannelState, UserState, Channel, session_of, User, given, IsProper, is_sound_user, StateValue, Edit, Join, Kick, Leave, MakeChannel, SetAcl, Text, all_at, channel_change_told, channel_changes_told, channel_difference, channel_ids, channel_of, channel_told, edited_channels, has_links, if_it_tells, links_told, new_channels_told, tells_of_channel, channel_gone, channels_gone, departure, last_parcel, user_kicked, user_left, FitsFrame, arrival, closes, notices, others, IsWithinFrame, all_to_each, channel_frame, channel_gone_frame, channel_gone_payload, channel_payload, codecs_frame, codecs_payload, parcel, permissions_payload, sync_frame, sync_payload, text_frame, text_payload, to_each, user_frame, user_gone_frame, user_gone_payload, user_payload, version_frame, version_payload, all_links_told, server_codecs, server_version, sync_block, sync_frames, sync_parcels, tree_order, tree_told, welcome_told, is_for, permission_parcel, permission_parcels, permissions_told, text_parcels, text_told, tells_of_user, user_change_told, user_changes_told, user_difference, user_told, watched, whom_to_watch, Notice, Watch, Everybody, Nobody}
use Rattle.mum_notify.specs.declared.watch.Watch.TheVariants.{One}
use Rattle.mum_notify.proofs.{Bounds.channel_gone_within, Bounds.codecs_within, Bounds.permissions_within, Told.all_of_eight, Told.any_of, Told.pieces_of, Within.channel_change_within, Within.channel_told_within, Within.links_within, Within.server_version_within, Within.user_change_within, Within.user_left_within, Within.user_sound, Within.user_told_within, Within.welcome_within}

one_frame : (kind : ℕ) (payload : List ℕ) → kind < 65536 → IsWithinFrame payload → IsOneFrame (spelling_of kind payload)
one_frame kind payload fits within = (record { kind = kind; payload = payload }, record { kind_fits = fits; within_limit = within }, refl)

abbrev BringsOne : Notice → Type 0
BringsOne notice = IsOneFrame notice.bytes

-- ---- the same for several

each_one : (users : List User) (frame : List ℕ) → IsOneFrame frame → All BringsOne (to_each users frame)
each_one users frame one = All-map BringsOne (parcel frame) users (any_of (λ (user : User). IsOneFrame frame) (λ user. one) users)

all_one : (users : List User) (frames : List (List ℕ)) → All IsOneFrame frames → All BringsOne (all_to_each users frames)
all_one users frames ones =
    pieces_of BringsOne (to_each users) frames (All-weaker IsOneFrame (λ frame. All BringsOne (to_each users frame)) (each_one users) frames ones)

-- what holds of whatever is given
given_of : {X : Type 0} (Q : X → Type 0) (found : Option X) → ((x : X) → found ≡ Some x → Q x) → All Q (given found)
given_of Q None so = All-nil Q
given_of Q (Some x) so = All-cons Q x [] (so x refl) (All-nil Q)

told_of : {M : Type 0} (Q : M → Type 0) (tells : M → Bool) (message : M) → Q message → All Q (if_it_tells tells message)
told_of {M} Q tells message holds = step (tells message)
  where
    step : (b : Bool) → All Q (cond {A = List M} b (message ∷ []) [])
    step true = All-cons Q message [] holds (All-nil Q)
    step false = All-nil Q

-- ---- messages

abbrev ChannelFits : ChannelState → Type 0
ChannelFits message = IsWithinFrame (channel_payload message)

abbrev UserFits : UserState → Type 0
UserFits message = IsWithinFrame (user_payload message)

channels_one : (messages : List ChannelState) → All ChannelFits messages → All IsOneFrame (map channel_frame messages)
channels_one messages fit =
    All-map IsOneFrame channel_frame messages (All-weaker ChannelFits (λ message. IsOneFrame (channel_frame message)) (λ message. one_frame CHANNEL_STATE (channel_payload message) (omega arith)) messages fit)

users_one : (messages : List UserState) → All UserFits messages → All IsOneFrame (map user_frame messages)
users_one messages fit =
    All-map IsOneFrame user_frame messages (All-weaker UserFits (λ message. IsOneFrame (user_frame message)) (λ message. one_frame USER_STATE (user_payload message) (omega arith)) messages fit)

told_fit : (state : StateValue) (id : ChannelId) → IsProper state → All ChannelFits (map channel_told (given (channel_of state.tree id)))
told_fit state id proper =
    All-map ChannelFits channel_told (given (channel_of state.tree id)) (given_of (λ channel. ChannelFits (channel_told channel)) (channel_of state.tree id) (λ channel is. channel_told_within state id channel proper is))

new_fit : (state : StateValue) (edit : Edit) → IsProper state → All ChannelFits (new_channels_told state edit)
new_fit state (MakeChannel id parent name temporary info maker) proper = told_fit state id proper
new_fit state edit proper = All-nil ChannelFits

difference_fits : (before after : StateValue) (id : ChannelId) (was now : Option Channel) → IsProper before → IsProper after → channel_of after.tree id ≡ now → All ChannelFits (option_map_or (λ was. option_map_or (λ now. if_it_tells tells_of_channel (channel_change_told before.tree after.tree was now)) now []) was [])
difference_fits before after id None now proper stays is = All-nil ChannelFits
difference_fits before after id (Some was) None proper stays is = All-nil ChannelFits
difference_fits before after id (Some was) (Some now) proper stays is =
    told_of ChannelFits tells_of_channel (channel_change_told before.tree after.tree was now) (channel_change_within before after id was now proper stays is)

changes_fit : (before : StateValue) (edit : Edit) (after : StateValue) → IsProper before → IsProper after → All ChannelFits (channel_changes_told before edit after)
changes_fit before edit after proper stays =
    pieces_of ChannelFits (channel_difference before.tree after.tree) (edited_channels edit)
    (any_of (λ id. All ChannelFits (channel_difference before.tree after.tree id)) (λ id. difference_fits before after id (channel_of before.tree id) (channel_of after.tree id) proper stays refl) (edited_channels edit))

-- ---- sessions

abbrev IsSound : User → Type 0
IsSound user = is_sound_user user ≡ true

all_sound : (state : StateValue) → IsProper state → All IsSound state.roster.sessions
all_sound state proper = all_at is_sound_user state.roster.sessions proper.users

watched_sound : (state : StateValue) (watch : Watch) → IsProper state → All IsSound (watched watch state.roster)
watched_sound state Nobody proper = All-nil IsSound
watched_sound state (One session) proper = given_of IsSound (session_of state.roster session) (λ user is. user_sound state session user proper is)
watched_sound state Everybody proper = all_sound state proper

user_difference_fits : (before : StateValue) (edit : Edit) (after : StateValue) (now : User) (was : Option User) → IsProper before → IsProper after → IsSound now → All UserFits (option_map_or (λ was. if_it_tells tells_of_user (user_change_told before.roster edit after.roster was now)) was [])
user_difference_fits before edit after now None proper stays sound = All-nil UserFits
user_difference_fits before edit after now (Some was) proper stays sound =
    told_of UserFits tells_of_user (user_change_told before.roster edit after.roster was now) (user_change_within before edit after was now proper stays sound)

user_changes_fit : (before : StateValue) (edit : Edit) (after : StateValue) (closes : Bool) → IsProper before → IsProper after → All UserFits (user_changes_told before edit after closes)
user_changes_fit before edit after closes proper stays =
    pieces_of UserFits (user_difference before edit after) (watched (whom_to_watch edit closes) after.roster)
    (All-weaker IsSound (λ now. All UserFits (user_difference before edit after now))
    (λ now sound. user_difference_fits before edit after now (session_of before.roster now.session) proper stays sound)
    (watched (whom_to_watch edit closes) after.roster) (watched_sound after (whom_to_watch edit closes) stays))

-- ---- the sync block

tree_fits : (state : StateValue) → IsProper state → All ChannelFits (tree_told state.tree)
tree_fits state proper =
    pieces_of ChannelFits (λ id. map channel_told (given (channel_of state.tree id))) (tree_order state.tree)
    (any_of (λ id. All ChannelFits (map channel_told (given (channel_of state.tree id)))) (λ id. told_fit state id proper) (tree_order state.tree))

links_fit : (state : StateValue) → IsProper state → All ChannelFits (all_links_told state.tree)
links_fit state proper =
    pieces_of ChannelFits (λ id. if_it_tells has_links (links_told state.tree id)) (channel_ids state.tree)
    (any_of (λ id. All ChannelFits (if_it_tells has_links (links_told state.tree id))) (λ id. told_of ChannelFits has_links (links_told state.tree id) (links_within state id proper)) (channel_ids state.tree))

user_one : (state : StateValue) (user : User) → IsProper state → IsSound user → IsOneFrame (user_frame (user_told state.roster user))
user_one state user proper sound = one_frame USER_STATE (user_payload (user_told state.roster user)) (omega arith) (user_told_within state user proper sound)

sync_one : (state : StateValue) (user : User) → IsProper state → All IsOneFrame (sync_frames state user)
sync_one state user proper =
    let channels = channels_one (tree_told state.tree) (tree_fits state proper) in
    let links = channels_one (all_links_told state.tree) (links_fit state proper) in
    let users : All IsOneFrame (map (λ (other : User). user_frame (user_told state.roster other)) state.roster.sessions) =
    All-map IsOneFrame (λ (other : User). user_frame (user_told state.roster other)) state.roster.sessions
    (All-weaker IsSound (λ other. IsOneFrame (user_frame (user_told state.roster other))) (λ other sound. user_one state other proper sound) state.roster.sessions (all_sound state proper)) in
    let heads : All IsOneFrame (version_frame server_version ∷ codecs_frame server_codecs ∷ map channel_frame (tree_told state.tree)) =
    All-cons IsOneFrame (version_frame server_version) (codecs_frame server_codecs ∷ map channel_frame (tree_told state.tree)) (one_frame VERSION (version_payload server_version) (omega arith) server_version_within)
    (All-cons IsOneFrame (codecs_frame server_codecs) (map channel_frame (tree_told state.tree)) (one_frame CODEC_VERSION (codecs_payload server_codecs) (omega arith) (codecs_within server_codecs)) channels) in
    let own : All IsOneFrame (sync_frame (welcome_told state user) ∷ []) =
    All-cons IsOneFrame (sync_frame (welcome_told state user)) [] (one_frame SERVER_SYNC (sync_payload (welcome_told state user)) (omega arith) (welcome_within state user proper)) (All-nil IsOneFrame) in
    let first : List (List ℕ) = version_frame server_version ∷ codecs_frame server_codecs ∷ map channel_frame (tree_told state.tree) in
    let second : List (List ℕ) = map channel_frame (all_links_told state.tree) in
    let third : List (List ℕ) = map (λ (other : User). user_frame (user_told state.roster other)) state.roster.sessions in
    All-append IsOneFrame (first ++ second ++ third) (sync_frame (welcome_told state user) ∷ [])
    (All-append IsOneFrame (first ++ second) third (All-append IsOneFrame first second heads links) users) own

pub sync_block_one : (state : StateValue) (session : SessionId) → IsProper state → All BringsOne (sync_block state session)
sync_block_one state session proper =
    pieces_of BringsOne (sync_parcels state) (given (session_of state.roster session))
    (any_of (λ user. All BringsOne (sync_parcels state user))
    (λ user. All-map BringsOne (λ frame. parcel frame user) (sync_frames state user) (sync_one state user proper)) (given (session_of state.roster session)))

-- ---- all

arrival_one : (state : StateValue) (edit : Edit) → IsProper state → All BringsOne (arrival state edit)
arrival_one state (Join session slot name account tokens) proper =
    All-append BringsOne (sync_block state session) (flat_map (λ user. to_each (others state session) (user_frame (user_told state.roster user))) (given (session_of state.roster session)))
    (sync_block_one state session proper)
    (pieces_of BringsOne (λ user. to_each (others state session) (user_frame (user_told state.roster user))) (given (session_of state.roster session))
    (given_of (λ user. All BringsOne (to_each (others state session) (user_frame (user_told state.roster user)))) (session_of state.roster session)
    (λ user is. each_one (others state session) (user_frame (user_told state.roster user)) (user_one state user proper (user_sound state session user proper is)))))
arrival_one state edit proper = All-nil BringsOne

gone_one : (ids : List ChannelId) → All IsOneFrame (map (λ id. channel_gone_frame (channel_gone id)) ids)
gone_one ids =
    All-map IsOneFrame (λ id. channel_gone_frame (channel_gone id)) ids
    (any_of (λ id. IsOneFrame (channel_gone_frame (channel_gone id))) (λ id. one_frame CHANNEL_REMOVE (channel_gone_payload (channel_gone id)) (omega arith) (channel_gone_within (channel_gone id))) ids)

departure_one : (before : StateValue) (edit : Edit) (after : StateValue) → FitsFrame edit → All BringsOne (departure before edit after)
departure_one before (Leave session) after fits =
    each_one after.roster.sessions (user_gone_frame (user_left session)) (one_frame USER_REMOVE (user_gone_payload (user_left session)) (omega arith) (user_left_within session))
departure_one before (Kick session actor reason ban) after fits =
    let frame = user_gone_frame (user_kicked session actor reason ban) in
    All-map BringsOne (last_parcel session frame) before.roster.sessions
    (any_of (λ (user : User). IsOneFrame frame) (λ user. one_frame USER_REMOVE (user_gone_payload (user_kicked session actor reason ban)) (omega arith) fits) before.roster.sessions)
departure_one before edit after fits = All-nil BringsOne

text_one : (after : StateValue) (edit : Edit) → FitsFrame edit → All BringsOne (text_parcels after edit)
text_one after (Text actor sessions channels trees message) fits =
    each_one (filter (is_for after actor sessions channels trees) after.roster.sessions) (text_frame (text_told actor sessions channels trees message))
    (one_frame TEXT_MESSAGE (text_payload (text_told actor sessions channels trees message)) (omega arith) fits)
text_one after edit fits = All-nil BringsOne

permissions_one : (after : StateValue) (edit : Edit) → All BringsOne (permission_parcels after edit)
permissions_one after (SetAcl channel actor policy) =
    All-map BringsOne (permission_parcel after) after.roster.sessions
    (any_of (λ user. BringsOne (permission_parcel after user)) (λ user. one_frame PERMISSION_QUERY (permissions_payload (permissions_told after user)) (omega arith) (permissions_within (permissions_told after user))) after.roster.sessions)
permissions_one after edit = All-nil BringsOne

pub each_is_one_frame_lem : (before : StateValue) (edit : Edit) (after : StateValue) → IsProper before → IsProper after → FitsFrame edit → All (λ notice. IsOneFrame notice.bytes) (notices before edit after)
each_is_one_frame_lem before edit after proper stays fits =
    let here = after.roster.sessions in
    all_of_eight BringsOne (all_to_each here (map channel_frame (new_channels_told after edit))) (all_to_each here (map channel_frame (channel_changes_told before edit after))) (arrival after edit)
    (all_to_each here (map user_frame (user_changes_told before edit after (closes before edit after)))) (all_to_each here (map (λ id. channel_gone_frame (channel_gone id)) (channels_gone before edit after)))
    (departure before edit after) (text_parcels after edit) (permission_parcels after edit)
    (all_one here (map channel_frame (new_channels_told after edit)) (channels_one (new_channels_told after edit) (new_fit after edit stays)))
    (all_one here (map channel_frame (channel_changes_told before edit after)) (channels_one (channel_changes_told before edit after) (changes_fit before edit after proper stays)))
    (arrival_one after edit stays)
    (all_one here (map user_frame (user_changes_told before edit after (closes before edit after))) (users_one (user_changes_told before edit after (closes before edit after)) (user_changes_fit before edit after (closes before edit after) proper stays)))
    (all_one here (map (λ id. channel_gone_frame (channel_gone id)) (channels_gone before edit after)) (gone_one (channels_gone before edit after)))
    (departure_one before edit after fits) (text_one after edit fits) (permissions_one after edit)
