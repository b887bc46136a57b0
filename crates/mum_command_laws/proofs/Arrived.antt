-- What is reported of a session that arrives and of a channel that is made says all of it.
use Rattle.mum_command_laws.proofs.Common.{◌≡◌, ℕ, ◌==◌, Bool, true, false, not, List, [], map, Option, Some, None, pos, refl, sym, subst, signed_Decides, All, Contains, flat_map, unwrap_or, int_eq, cond-false, eqb-true, not_from_false, All-contains, All-cons, All-nil, Contains-append_right, ChannelState, UserState, is_root, Channel, pairs_of, session_of, RosterState, has_number, ListenerPair, User, is_empty, given, MakeChannel, channel_told, new_channels_told, said_unless, notices, others, all_to_each, channel_frame, parcel, to_each, user_frame, sync_block, said_if_set, user_told, ArrivalsAreReported, NewChannelsAreReported, SaysAllOfChannel, SaysAllOfUser, ReachesAll}
use Rattle.mum_state.specs.declared.edit.Edit.TheVariants.{Join}
use Rattle.mum_command_laws.proofs.{Brought.in_arrival, Brought.in_new_channels, Contained.each_reaches, Contained.first_in, Contained.in_flat_map, Contained.in_map, Contained.passing_in, Contained.reaches_in, Contained.to_each_reaches, Knowing.empty_is, Knowing.said_known}

set_known : (flag : Bool) → unwrap_or (said_if_set flag) false ≡ flag
set_known true = refl
set_known false = refl

text_known : (text : List ℕ) → unwrap_or (said_unless (is_empty text) text) [] ≡ text
text_known text = said_known (is_empty text) [] text (λ none. sym (empty_is text none))

-- ---- a session

says_all_of_user : (roster : RosterState) (user : User) → SaysAllOfUser (user_told roster user) roster user
says_all_of_user roster user = record {
  name = refl;
  account = refl;
  channel = refl;
  learned = record {
    session = All-cons (λ (message : UserState). message.session ≡ Some user.session.0) (user_told roster user) [] refl (All-nil (λ (message : UserState). message.session ≡ Some user.session.0));
    channel = refl;
    mute = set_known user.mute;
    deaf = set_known user.deaf;
    suppress = set_known user.suppress;
    self_mute = set_known user.self_mute;
    self_deaf = set_known user.self_deaf;
    priority = set_known user.priority;
    recording = set_known user.recording;
    comment = text_known user.comment;
  };
  listening = in_map (λ (pair : ListenerPair). pair.channel.0) (pairs_of roster user.session);
}

pub arrivals_are_reported_lem : ArrivalsAreReported
arrivals_are_reported_lem before after session slot name account tokens user other is here apart =
    let edit = Join session slot name account tokens in
    let message = user_told after.roster user in
    let to_them = flat_map (λ one. to_each (others after session) (user_frame (user_told after.roster one))) (given (session_of after.roster session)) in
    let receives = All-contains (λ one. not (has_number session one) ≡ true → Contains (others after session) one) after.roster.sessions other
    (passing_in (λ one. not (has_number session one)) after.roster.sessions) here (not_from_false (has_number session other) apart) in
    let arrived = subst (λ (o : Option User). Contains (given o) user) (sym is) (first_in user []) in
    let to_others = All-contains (λ one. Contains (to_each (others after session) (user_frame message)) (parcel (user_frame message) one)) (others after session) other
    (to_each_reaches (others after session) (user_frame message)) receives in
    let each = All-contains (λ one. All (Contains to_them) (to_each (others after session) (user_frame (user_told after.roster one)))) (given (session_of after.roster session)) user
    (in_flat_map (λ one. to_each (others after session) (user_frame (user_told after.roster one))) (given (session_of after.roster session))) arrived in (
      message,
      says_all_of_user after.roster user,
      in_arrival before edit after (parcel (user_frame message) other)
          (Contains-append_right (sync_block after session) to_them (parcel (user_frame message) other)
          (All-contains (Contains to_them) (to_each (others after session) (user_frame message)) (parcel (user_frame message) other) each to_others)),
    )

-- ---- a channel

says_all_of_channel : (channel : Channel) → SaysAllOfChannel (channel_told channel) channel
says_all_of_channel channel = record {
  parent = λ off. cond-false (is_root channel.id) None (Some channel.parent.0) off;
  temporary = set_known channel.temporary;
  learned = record {
    channel = All-cons (λ (message : ChannelState). message.channel_id ≡ Some channel.id.0) (channel_told channel) [] refl (All-nil (λ (message : ChannelState). message.channel_id ≡ Some channel.id.0));
    parent = said_known (is_root channel.id) channel.parent.0 channel.parent.0 (λ on. refl);
    name = refl;
    description = text_known channel.info.description;
    position = said_known (int_eq channel.info.position (pos 0)) (pos 0) channel.info.position
        (λ on. sym ((signed_Decides channel.info.position (pos 0)).0 on));
    max_users = said_known (channel.info.max_users == 0) 0 channel.info.max_users (λ on. sym (eqb-true channel.info.max_users 0 on));
  };
}

pub new_channels_are_reported_lem : NewChannelsAreReported
new_channels_are_reported_lem before after id parent name temporary info maker channel is =
    let edit = MakeChannel id parent name temporary info maker in
    let message = channel_told channel in
    let frames = map channel_frame (new_channels_told after edit) in
    let users = after.roster.sessions in
    let made : Contains frames (channel_frame message) =
    subst (λ (o : Option Channel). Contains (map channel_frame (map channel_told (given o))) (channel_frame message)) (sym is) (first_in (channel_frame message) []) in (
      message,
      says_all_of_channel channel,
      reaches_in (all_to_each users frames) (notices before edit after) (channel_frame message) users (in_new_channels before edit after)
          (All-contains (λ frame. ReachesAll (all_to_each users frames) frame users) frames (channel_frame message) (each_reaches users frames) made),
    )
