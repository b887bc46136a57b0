-- Why a session does not hear what another says to a target, or how it does.
use Rattle.std.specs.Prelude.{ℕ, ◌+◌, ◌==◌, ◌&&◌, ◌||◌, Bool, true, false, not, List, [], ◌∷◌, find, length, map, Option, Some, None, is_some, unwrap_or, if◌then◌else◌}
use Rattle.std.specs.{List.list_any, Option.option_map, Option.option_map_or, Option.option_or}
use Rattle.mum_base.specs.Channels.{is_among}
use Rattle.mum_base.specs.declared.{number.ChannelId.ChannelId, number.SessionId.SessionId, perm.Perm.Perm}
use Rattle.mum_base.specs.declared.perm.TheConstants.Perm.{LISTEN, SPEAK, WHISPER}
use Rattle.mum_tree.specs.{Rows.is_there, State.TreeState}
use Rattle.mum_users.specs.declared.{target.TargetItem.TargetItem, user.User.User}
use Rattle.mum_users.specs.{Listeners.pairs_of, Sessions.session_of, State.has_number}
use Rattle.mum_state.specs.State.{StateValue}
use Rattle.mum_route.specs.declared.context.Context.TheVariants.{Talk}
use Rattle.mum_route.specs.declared.routes.TheConstants.{LOOPBACK, TALK}
use Rattle.mum_route.specs.{Cover.spread, Hearing.is_in_group, Hearing.may, Laws.needed_for}
use Rattle.mum_route.specs.Route.{context_of, is_named, items_of}
use Rattle.mum_why.specs.declared.{reason.Reason.Reason, stop.Stop.Stop}
use Rattle.mum_why.specs.declared.reason.Reason.TheVariants.{Deaf, DeafenedItself, Heard, ItIsItself, ListenerLacks, ListenerOutsideGroup, Muted, MutedItself, NoHearer, NoSpeaker, OnlyLoopback, OutsideGroup, SpeakerLacks, SpeakerLacksAtListener, Suppressed, Uncovered, Unset}
use Rattle.mum_why.specs.declared.stop.Stop.TheVariants.{Arrives, Elsewhere, LacksListen, LacksPermission, NoMember}
use Rattle.mum_why.specs.Cut.{cut_at, cut_of}

-- ---- what a packet is aimed at

-- one thing that it is aimed at: those in the channels over which it spreads from one, who are in a group there; where it
-- is to be heard the speaker needs a permission
pub record Aimed : Type 0 where
  pub speaker : SessionId
  pub permission : Perm
  pub top : Option ChannelId
  pub links : Bool
  pub children : Bool
  pub group : List ℕ

-- talk spreads over links from the channel of the speaker
abbrev pub talk_aim : User → Aimed
talk_aim own = record {
  speaker = own.session;
  permission = SPEAK;
  top = Some own.channel;
  links = true;
  children = false;
  group = [];
}

-- an item of a voice target
abbrev pub item_aim : SessionId → TargetItem → Aimed
item_aim speaker item = record {
  speaker = speaker;
  permission = WHISPER;
  top = item.channel;
  links = item.links;
  children = item.children;
  group = item.group;
}

-- talk is aimed at one thing, what is said to a voice target at each of its items
abbrev pub aims_of : StateValue → User → ℕ → List Aimed
aims_of state own target =
    if target == TALK then talk_aim own ∷ [] else map (item_aim own.session) (items_of state own.session target)

-- ---- how far an aim goes

-- it spreads over the channel, from one that is there
abbrev pub spreads_over : TreeState → Aimed → ChannelId → Bool
spreads_over tree aim channel =
    option_map_or
    (λ top. is_there tree.channels top && is_among (spread tree aim.links aim.children top) channel) aim.top false

-- where an aim stops on its way to a session that is in a channel, or listens to it: the first of its tests that fails
abbrev pub stop_of : StateValue → Aimed → User → Bool → ChannelId → Stop
stop_of state aim user listens channel =
    if not (spreads_over state.tree aim channel) then Elsewhere
    else if not (may state aim.speaker aim.permission channel) then LacksPermission
    else if not (is_in_group state aim.group channel user) then NoMember
    else if listens && not (may state user.session LISTEN channel) then LacksListen
    else Arrives

-- how many tests were passed
abbrev pub level : Stop → ℕ
level Elsewhere = 0
level LacksPermission = 1
level NoMember = 2
level LacksListen = 3
level Arrives = 4

-- the aim stops just there
abbrev pub stops : StateValue → Aimed → User → Bool → Stop → ChannelId → Bool
stops state aim user listens wanted channel = level (stop_of state aim user listens channel) == level wanted

-- ---- the first aim that stops there

-- the channel of the session, or the first that it listens to, in which the aim stops there
abbrev pub channel_where : StateValue → Aimed → User → Bool → Stop → Option ChannelId
channel_where state aim user listens wanted =
    if listens
    then option_map (λ pair. pair.channel)
    (find (λ pair. stops state aim user true wanted pair.channel) (pairs_of state.roster user.session))
    else if stops state aim user false wanted user.channel then Some user.channel
    else None

-- the first of these aims, the first of which is at this place, with such a channel
unfoldable pub way_from : StateValue → User → Bool → Stop → ℕ → List Aimed → Option (ℕ × ChannelId)
way_from state user listens wanted place [] = None
way_from state user listens wanted place (aim ∷ aims) =
    option_or (option_map (λ channel. (place, channel)) (channel_where state aim user listens wanted))
    (way_from state user listens wanted (place + 1) aims)

-- to the channel in which the session is
abbrev pub way_to : StateValue → List Aimed → User → Stop → Option (ℕ × ChannelId)
way_to state aims user wanted = way_from state user false wanted 0 aims

-- to a channel to which it listens
abbrev pub way_by_listening : StateValue → List Aimed → User → Stop → Option (ℕ × ChannelId)
way_by_listening state aims user wanted = way_from state user true wanted 0 aims

-- an item of the voice target names the session; talk names nobody
abbrev pub one_names : StateValue → User → ℕ → User → Bool
one_names state own target user =
    not (target == TALK) && list_any (λ item. is_named item.sessions user) (items_of state own.session target)

-- ---- who is left out where nothing else is in the way

-- the packet is aimed at the channel of the session, or at the session by name, and the speaker lacks the permission there
abbrev pub lacks_where_it_is : StateValue → User → ℕ → List Aimed → User → Bool
lacks_where_it_is state own target aims user =
    (is_some (way_to state aims user LacksPermission) || one_names state own target user)
    && not (may state own.session (needed_for target) user.channel)

-- by what is aimed at the channel where the session is, or at the session
abbrev pub left_out_there : StateValue → User → ℕ → List Aimed → User → Option Reason
left_out_there state own target aims user =
    if lacks_where_it_is state own target aims user
    then Some (SpeakerLacks user.channel (cut_at state own user.channel (needed_for target)))
    else option_map (λ way. OutsideGroup way.0 way.1) (way_to state aims user NoMember)

-- by what is aimed at the channels to which it listens; the furthest way counts
abbrev pub left_out_listening : StateValue → User → ℕ → List Aimed → User → Option Reason
left_out_listening state own target aims user =
    option_or (option_map (λ way. ListenerLacks way.1 (cut_at state user way.1 LISTEN))
    (way_by_listening state aims user LacksListen))
    (option_or (option_map (λ way. ListenerOutsideGroup way.0 way.1) (way_by_listening state aims user NoMember))
    (option_map (λ way. SpeakerLacksAtListener way.1 (cut_at state own way.1 (needed_for target)))
    (way_by_listening state aims user LacksPermission)))

-- why these aims do not reach a session
abbrev pub left_out : StateValue → User → ℕ → List Aimed → User → Reason
left_out state own target aims user =
    if length aims == 0 then Unset
    else unwrap_or
    (option_or (left_out_there state own target aims user)
    (left_out_listening state own target aims user)) Uncovered

-- ---- the reason

-- why nobody hears a session that is there, if it is so
abbrev pub silence : StateValue → User → Option Reason
silence state own =
    if own.mute then Some Muted
    else if own.self_mute then Some MutedItself
    else if own.suppress then Some (Suppressed (cut_of state own.session own.channel SPEAK))
    else None

-- why a session hears nothing of a speaker whom others hear, if it is so; loopback is heard by the speaker alone
abbrev pub apart : User → ℕ → User → Option Reason
apart own target user =
    if target == LOOPBACK then Some (if has_number own.session user then Heard Talk else OnlyLoopback)
    else if has_number own.session user then Some ItIsItself
    else if user.deaf then Some Deaf
    else if user.self_deaf then Some DeafenedItself
    else None

-- how a packet reaches a session that can hear it, or why it does not
abbrev pub by_aims : StateValue → User → ℕ → User → Reason
by_aims state own target user =
    option_map_or Heard (context_of state own target user) (left_out state own target (aims_of state own target) user)

-- of two sessions that are there: the first rule that leaves the hearer out, or the context in which it hears
abbrev pub reason_between : StateValue → User → ℕ → User → Reason
reason_between state own target user =
    unwrap_or (option_or (silence state own) (apart own target user)) (by_aims state own target user)

-- of the speaker, the hearer and the target
abbrev pub reason : StateValue → SessionId → SessionId → ℕ → Reason
reason state speaker hearer target = option_map_or
    (λ own. option_map_or (reason_between state own target) (session_of state.roster hearer) NoHearer)
    (session_of state.roster speaker) NoSpeaker
