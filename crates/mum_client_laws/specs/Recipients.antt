-- Who is sent what of an edit, in which order: a list for each kind of edit, made of the states before and after it.
use Rattle.std.specs.Prelude.{◌≡◌, ℕ, zero, suc, ◌==◌, ◌&&◌, ◌||◌, not, Bool, true, false, List, [], ◌∷◌, ◌++◌, length, map, filter, Option, Some, None, is_some, if◌then◌else◌, IsTrue, ⊤}
use Rattle.std.specs.{List.flat_map, List.list_any, Option.option_map, Option.option_map_or, Ordering.int_eq}
use Rattle.std.specs.Str.{bytes_eq}
use Rattle.mum_base.specs.declared.number.{ChannelId.ChannelId, SessionId.SessionId, Slot.Slot}
use Rattle.mum_base.specs.declared.{number.TheConstants.ChannelId.ROOT, perm.TheConstants.Perm.TEXT_MESSAGE}
use Rattle.mum_policy.specs.Walk.{holds}
use Rattle.mum_tree.specs.Refusals.{parent_of}
use Rattle.mum_tree.specs.Rows.{is_below, is_root, is_temporary, is_there, row_of}
use Rattle.mum_tree.specs.State.{TreeState, are_linked, partners, starts_at}
use Rattle.mum_tree.specs.declared.channel.{Channel.Channel, TheConstants.PATH_LIMIT}
use Rattle.mum_users.specs.{Listeners.listens, Listeners.pairs_of, Sessions.session_of}
use Rattle.mum_users.specs.State.{RosterState, has_number}
use Rattle.mum_users.specs.declared.user.User.{User}
use Rattle.mum_msg_state.specs.declared.user_state.UserState.{UserState}
use Rattle.mum_state.specs.{Applied.applied, Fits.fits, Parts.by_parts, Permissions.perm_of, Proper.IsProper}
use Rattle.mum_state.specs.State.{StateValue}
use Rattle.mum_state.specs.declared.edit.Edit.{Edit}
use Rattle.mum_state.specs.declared.edit.Edit.TheVariants.{Join, Kick, Leave, MakeChannel, RemoveChannel, SetAcl, SetTokens, Text}
use Rattle.mum_notify.specs.Notices.{notices}
use Rattle.mum_notify.specs.declared.notice.Notice.{Notice}
use Rattle.mum_client_laws.specs.Brought.{frame_of}
use Rattle.mum_client_laws.specs.Heard.{Message, OfChannel, OfChannelGone, OfCodecs, OfPermissions, OfSession, OfSessionGone, OfSync, OfText, OfVersion, has_any}

-- ---- what messages are about

-- what a message names, and what it gives that is nothing of what a client knows
pub data Subject : Type 0 where
  AboutVersion : Subject
  AboutCodecs : Subject
  -- of a session: the bandwidth, the text, and what it may do in the root
  AboutWelcome : Option ℕ → Option ℕ → Option (List ℕ) → Option ℕ → Subject
  AboutChannel : Option ℕ → Subject
  AboutLinks : Option ℕ → Subject
  AboutChannelGone : Option ℕ → Subject
  -- of a session: by which, and whether what is private is given
  AboutSession : Option ℕ → Option ℕ → Bool → Subject
  -- of a session: by which, why, and whether it is banned
  AboutSessionGone : Option ℕ → Option ℕ → Option (List ℕ) → Option Bool → Subject
  -- of a session: the sessions, channels and trees that it names, and the text
  AboutText : Option ℕ → List ℕ → List ℕ → List ℕ → Option (List ℕ) → Subject
  -- in a channel: the permissions, and whether what was known of others is no longer so
  AboutPermissions : Option ℕ → Option ℕ → Option Bool → Subject

-- a plugin's context or identity, or access tokens
abbrev pub gives_private : UserState → Bool
gives_private message =
    is_some message.plugin_context || is_some message.plugin_identity
    || not (length message.temporary_access_tokens == 0)

abbrev pub subject_of : Message → Subject
subject_of (OfVersion message) = AboutVersion
subject_of (OfCodecs message) = AboutCodecs
subject_of (OfSync message) =
    AboutWelcome message.session message.max_bandwidth message.welcome_text message.permissions
subject_of (OfChannel message) =
    if has_any message.links then AboutLinks message.channel_id else AboutChannel message.channel_id
subject_of (OfChannelGone message) = AboutChannelGone message.channel_id
subject_of (OfSession message) = AboutSession message.session message.actor (gives_private message)
subject_of (OfSessionGone message) = AboutSessionGone message.session message.actor message.reason message.ban
subject_of (OfText message) =
    AboutText message.actor message.session message.channel_id message.tree_id message.message
subject_of (OfPermissions message) = AboutPermissions message.channel_id message.permissions message.flush

-- a message that is due: for whom, in which slot, about what, and whether it is the last for that session
pub record Due : Type 0 where
  pub to : SessionId
  pub slot : Slot
  pub about : Subject
  pub last : Bool

abbrev pub due_to : Subject → User → Due
due_to about user = record { to = user.session; slot = user.slot; about = about; last = false }

-- the notice is one message about this, for this session
abbrev pub Meets : Notice → Due → Type 0
Meets notice wanted =
    (message : Message) × (subject_of message ≡ wanted.about)
    × (notice ≡ record { to = wanted.to; slot = wanted.slot; bytes = frame_of message; last = wanted.last })

-- one notice for each message that is due, in their order, and no other
abbrev pub AreExactly : List Notice → List Due → Type 0
AreExactly [] [] = ⊤
AreExactly (notice ∷ sent) (wanted ∷ more) = Meets notice wanted × AreExactly sent more
AreExactly sent more = ⊥

-- each message to each of these, one message after the other
abbrev pub due_to_each : List User → List Subject → List Due
due_to_each users subjects = flat_map (λ about. map (due_to about) users) subjects

-- to everybody who is there, by their slots
abbrev pub due_to_all : StateValue → List Subject → List Due
due_to_all state subjects = due_to_each state.roster.sessions subjects

-- ---- what an edit changes

abbrev pub all_channels : StateValue → List ChannelId
all_channels state = map (λ row. row.channel.id) state.tree.channels

abbrev pub differ : Bool → Bool → Bool
differ true false = true
differ false true = true
differ was now = false

abbrev pub is_other_channel : Channel → Channel → Bool
is_other_channel was now =
    not (was.parent.0 == now.parent.0) || not (bytes_eq was.name now.name)
    || not (bytes_eq was.info.description now.info.description) || not (int_eq was.info.position now.info.position)
    || not (was.info.max_users == now.info.max_users)

-- a link of it is new, or is gone while the channel that it led to is not
abbrev pub is_relinked : TreeState → TreeState → ChannelId → Bool
is_relinked before after id =
    list_any (λ other. not (are_linked before id other)) (partners after id)
    || list_any (λ other. is_there after.channels other && not (are_linked after id other)) (partners before id)

-- it was there, and is another, or linked otherwise
abbrev pub is_changed_channel : StateValue → StateValue → ChannelId → Bool
is_changed_channel before after id =
    option_map_or
    (λ was. option_map_or (λ now. is_other_channel was.channel now.channel || is_relinked before.tree after.tree id)
    (row_of after.tree.channels id) false)
    (row_of before.tree.channels id) false

abbrev pub is_other_session : User → User → Bool
is_other_session was now =
    not (was.channel.0 == now.channel.0) || differ was.mute now.mute || differ was.deaf now.deaf
    || differ was.suppress now.suppress || differ was.self_mute now.self_mute || differ was.self_deaf now.self_deaf
    || not (bytes_eq was.comment now.comment) || differ was.priority now.priority || differ was.recording now.recording

-- it listens to a channel to which it did not, or the other way round
abbrev pub listens_otherwise : RosterState → RosterState → SessionId → Bool
listens_otherwise before after session =
    list_any (λ pair. not (listens before session pair.channel)) (pairs_of after session)
    || list_any (λ pair. not (listens after session pair.channel)) (pairs_of before session)

-- it was there, and is another, or listens otherwise
abbrev pub is_changed_session : StateValue → StateValue → User → Bool
is_changed_session before after now =
    option_map_or (λ was. is_other_session was now || listens_otherwise before.roster after.roster now.session)
    (session_of before.roster now.session) false

-- it is gone, and not with a channel above it, unless it was temporary
abbrev pub is_gone : StateValue → StateValue → ChannelId → Bool
is_gone before after id =
    not (is_there after.tree.channels id)
    && (is_temporary before.tree.channels id || is_there after.tree.channels (parent_of before.tree id))

-- ---- what is due of that

-- in order of number
abbrev pub changed_channels : StateValue → StateValue → List Due
changed_channels before after =
    due_to_all after
    (map (λ id. AboutChannel (Some id.0)) (filter (is_changed_channel before after) (all_channels after)))

-- by their slots, as changed by this session
abbrev pub changed_sessions : Option SessionId → StateValue → StateValue → List Due
changed_sessions actor before after =
    due_to_all after
    (map (λ user. AboutSession (Some user.session.0) (option_map (λ session. session.0) actor) false)
    (filter (is_changed_session before after) after.roster.sessions))

-- in order of number
abbrev pub gone_channels : StateValue → StateValue → List Due
gone_channels before after =
    due_to_all after (map (λ id. AboutChannelGone (Some id.0)) (filter (is_gone before after) (all_channels before)))

-- a text, if there is one
abbrev pub unless_empty : List ℕ → Option (List ℕ)
unless_empty text = if length text == 0 then None else Some text

abbrev pub about_kick : SessionId → SessionId → List ℕ → Bool → Subject
about_kick session actor reason ban =
    AboutSessionGone (Some session.0) (Some actor.0) (unless_empty reason) (if ban then Some true else None)

-- who is kicked is sent this as its last message
abbrev pub due_of_kick : SessionId → SessionId → List ℕ → Bool → User → Due
due_of_kick session actor reason ban user =
    record (due_to (about_kick session actor reason ban) user) { last = has_number session user }

-- what a session may do where it is
abbrev pub due_of_policy : StateValue → User → Due
due_of_policy state user =
    due_to (AboutPermissions (Some user.channel.0) (perm_of state user.session user.channel) (Some true)) user

-- ---- what a newcomer is sent

-- the channel is right below the parent
abbrev pub is_right_below : TreeState → ChannelId → ChannelId → Bool
is_right_below tree parent id = not (is_root id) && ((parent_of tree id).0 == parent.0)

-- a channel, and after it each channel right below it, in order of number, with all that is below that, n levels
-- deep
unfoldable pub with_all_below : StateValue → ℕ → ChannelId → List ChannelId
with_all_below state zero id = []
with_all_below state (suc levels) id =
    id ∷ flat_map (with_all_below state levels) (filter (is_right_below state.tree id) (all_channels state))

-- a link begins at the channel
abbrev pub has_link : TreeState → ChannelId → Bool
has_link tree id = list_any (starts_at id) tree.links

abbrev pub about_welcome : StateValue → SessionId → Subject
about_welcome state session =
    AboutWelcome (Some session.0) (Some state.server.bandwidth) (unless_empty state.server.welcome)
    (perm_of state session ROOT)

-- the versions; each channel after its parent, and the links of each; each session by its slot; and the welcome
abbrev pub due_to_newcomer : StateValue → SessionId → List Subject
due_to_newcomer state session =
    AboutVersion ∷ AboutCodecs
    ∷ map (λ id. AboutChannel (Some id.0)) (with_all_below state PATH_LIMIT ROOT)
    ++ map (λ id. AboutLinks (Some id.0)) (filter (has_link state.tree) (all_channels state))
    ++ map (λ user. AboutSession (Some user.session.0) None false) state.roster.sessions
    ++ about_welcome state session ∷ []

-- all that there is to the newcomer, and to the others that it came
abbrev pub due_of_join : StateValue → SessionId → List Due
due_of_join after session =
    due_to_each (filter (has_number session) after.roster.sessions) (due_to_newcomer after session)
    ++ map (due_to (AboutSession (Some session.0) None false))
    (filter (λ user. not (has_number session user)) after.roster.sessions)

-- ---- whom a text is for

abbrev pub may_text : StateValue → SessionId → ChannelId → Bool
may_text state actor channel = option_map_or (λ held. holds held TEXT_MESSAGE.0) (perm_of state actor channel) false

-- it is named, or its channel is, or it is in a tree that is named and the actor may send texts to where it is; and it
-- is not the actor
abbrev pub is_meant : StateValue → SessionId → List SessionId → List ChannelId → List ChannelId → User → Bool
is_meant state actor sessions channels trees user =
    not (has_number actor user)
    && (list_any (λ session. session.0 == user.session.0) sessions
    || list_any (λ channel. channel.0 == user.channel.0) channels
    || (list_any (λ top. is_below state.tree.channels top user.channel) trees && may_text state actor user.channel))

-- all receive the lists as they were sent
abbrev pub due_text : SessionId → List SessionId → List ChannelId → List ChannelId → List ℕ → Subject
due_text actor sessions channels trees message =
    AboutText (Some actor.0) (map (λ session. session.0) sessions) (map (λ channel. channel.0) channels)
    (map (λ channel. channel.0) trees) (Some message)

-- ---- what is due of each edit

abbrev pub due_of : StateValue → Edit → StateValue → List Due
due_of before (Join session slot name account tokens) after = due_of_join after session
due_of before (Leave session) after =
    changed_sessions None before after ++ gone_channels before after
    ++ due_to_all after (AboutSessionGone (Some session.0) None None None ∷ [])
due_of before (Kick session actor reason ban) after =
    changed_sessions (Some actor) before after ++ gone_channels before after
    ++ map (due_of_kick session actor reason ban) before.roster.sessions
due_of before (MakeChannel id parent name temporary info maker) after =
    due_to_all after (AboutChannel (Some id.0) ∷ []) ++ changed_sessions None before after ++ gone_channels before after
due_of before (RemoveChannel id actor) after = changed_sessions (Some actor) before after ++ gone_channels before after
due_of before (SetTokens session tokens) after = changed_sessions None before after
due_of before (SetAcl channel actor policy) after =
    changed_sessions actor before after
    ++ map (due_of_policy after) after.roster.sessions
due_of before (Text actor sessions channels trees message) after =
    map (due_to (due_text actor sessions channels trees message))
    (filter (is_meant after actor sessions channels trees) after.roster.sessions)
due_of before edit after =
    by_parts (λ channel. changed_channels before after)
    (λ user. changed_sessions (Some user.actor) before after ++ gone_channels before after) [] edit

-- of each edit these notices are sent, and no others
abbrev pub NothingElseIsSent : Type 0
NothingElseIsSent =
    (state : StateValue) (edit : Edit) → IsProper state → IsTrue (fits state edit)
    → AreExactly (notices state edit (applied state edit)) (due_of state edit (applied state edit))
