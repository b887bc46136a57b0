-- What a session is to whoever knew it before an edit and got the messages on sessions.
use Rattle.mum_client_laws.proofs.Common.{◌≡◌, ℕ, ◌==◌, ◌&&◌, ◌||◌, Bool, true, false, true≢false, not, cond, length, List, [], ◌∷◌, fold, Option, Some, None, refl, ap, sym, ◌∙◌, arith, count_by, filter, flat_map, list_any, is_some, option_map, option_map_or, unwrap_or, bytes_eq, eq-eqb, eqb-true, not-false, or_parts, append-nil, bytes_eq-Decides, AccountId, ChannelId, SessionId, UserState, listens, pairs_of, session_of, RosterState, has_number, is_of_session, IsProperRoster, ListenerPair, User, count_by-cons, is_empty, StateValue, Edit, Each, none_found, any_mapped, if_it_tells, said_unless, flag_told, gives_comment, listened, listened_only_in, said_if_set, tells_of_user, user_change_told, user_difference, user_told, same_channel, apart_sym, is_listed, listening_after, plain_session, session_after, session_heard, KnownSession, public_session}
use Rattle.mum_client_laws.proofs.{Folded.listens_at, Folded.session_at, Lists.any_both, Lists.any_kept, Lists.none_counted}

-- ---- values that are said, or not

pub said_known : {X : Type 0} (b : Bool) (was now : X) → (b ≡ true → was ≡ now) → unwrap_or (said_unless b now) was ≡ now
said_known true was now same = same refl
said_known false was now same = refl

pub number_known : (was now : ℕ) → unwrap_or (said_unless (was == now) now) was ≡ now
number_known was now = said_known (was == now) was now (eqb-true was now)

flag_known : (was now : Bool) → unwrap_or (flag_told was now) was ≡ now
flag_known true true = refl
flag_known true false = refl
flag_known false true = refl
flag_known false false = refl

flag_set : (flag : Bool) → unwrap_or (said_if_set flag) false ≡ flag
flag_set true = refl
flag_set false = refl

pub empty_is : {X : Type 0} (xs : List X) → is_empty xs ≡ true → xs ≡ []
empty_is [] none = refl
empty_is (x ∷ xs) none = let no : length (x ∷ xs) ≡ 0 = eqb-true (length (x ∷ xs)) 0 none in cc

pub text_known : (text : List ℕ) → unwrap_or (said_unless (is_empty text) text) [] ≡ text
text_known text = said_known (is_empty text) [] text (λ none. sym (empty_is text none))

given_or_none : {X : Type 0} (value : Option X) → option_map_or (λ x. Some x) value None ≡ value
given_or_none None = refl
given_or_none (Some x) = refl

pub unset : {X : Type 0} (value : Option X) (was : X) → is_some value ≡ false → unwrap_or value was ≡ was
unset None was none = refl
unset (Some x) was none = absurd (true≢false none)

comment_said : (gives : Bool) (was now : List ℕ) → (gives ≡ false → now ≡ was) → (not gives || bytes_eq was now) ≡ true → was ≡ now
comment_said true was now stays same = (bytes_eq-Decides was now).0 same
comment_said false was now stays same = sym (stays refl)

-- ---- what a message leaves of the session that it is about

-- all of it is said of a newcomer
pub newcomer_heard : (roster : RosterState) (user : User) → session_heard (user_told roster user) plain_session ≡ public_session user
newcomer_heard roster user = λ i. record {
  name = user.name;
  account = given_or_none (option_map (λ (account : AccountId). account.0) user.account) i;
  channel = user.channel.0;
  mute = flag_set user.mute i;
  deaf = flag_set user.deaf i;
  suppress = flag_set user.suppress i;
  self_mute = flag_set user.self_mute i;
  self_deaf = flag_set user.self_deaf i;
  priority = flag_set user.priority i;
  recording = flag_set user.recording i;
  comment = text_known user.comment i;
}

-- and what is another of one that stays
change_heard : (before : RosterState) (edit : Edit) (after : RosterState) (was now : User) → now.name ≡ was.name → now.account ≡ was.account
    → (gives_comment edit ≡ false → now.comment ≡ was.comment) → session_heard (user_change_told before edit after was now) (public_session was) ≡ public_session now
change_heard before edit after was now name account comment = λ i. record {
  name = sym name i;
  account = ap (option_map (λ (one : AccountId). one.0)) (sym account) i;
  channel = number_known was.channel.0 now.channel.0 i;
  mute = flag_known was.mute now.mute i;
  deaf = flag_known was.deaf now.deaf i;
  suppress = flag_known was.suppress now.suppress i;
  self_mute = flag_known was.self_mute now.self_mute i;
  self_deaf = flag_known was.self_deaf now.self_deaf i;
  priority = flag_known was.priority now.priority i;
  recording = flag_known was.recording now.recording i;
  comment = said_known (not (gives_comment edit) || bytes_eq was.comment now.comment) was.comment now.comment (comment_said (gives_comment edit) was.comment now.comment comment) i;
}

-- a message that reports nothing
record IsUntold (message : UserState) : Type 0 where
  channel : is_some message.channel_id ≡ false
  mute : is_some message.mute ≡ false
  deaf : is_some message.deaf ≡ false
  suppress : is_some message.suppress ≡ false
  self_mute : is_some message.self_mute ≡ false
  self_deaf : is_some message.self_deaf ≡ false
  comment : is_some message.comment ≡ false
  priority : is_some message.priority_speaker ≡ false
  recording : is_some message.recording ≡ false
  begun : is_empty message.listening_channel_add ≡ true
  ended : is_empty message.listening_channel_remove ≡ true

untold : (message : UserState) → tells_of_user message ≡ false → IsUntold message
untold message off =
    let (ten, ended) = or_parts _ (not (is_empty message.listening_channel_remove)) off in
    let (nine, begun) = or_parts _ (not (is_empty message.listening_channel_add)) ten in
    let (eight, recording) = or_parts _ (is_some message.recording) nine in
    let (seven, priority) = or_parts _ (is_some message.priority_speaker) eight in
    let (six, comment) = or_parts _ (is_some message.comment) seven in
    let (five, self_deaf) = or_parts _ (is_some message.self_deaf) six in
    let (four, self_mute) = or_parts _ (is_some message.self_mute) five in
    let (three, suppress) = or_parts _ (is_some message.suppress) four in
    let (two, deaf) = or_parts _ (is_some message.deaf) three in
    let (channel, mute) = or_parts (is_some message.channel_id) (is_some message.mute) two in record {
      channel = channel;
      mute = mute;
      deaf = deaf;
      suppress = suppress;
      self_mute = self_mute;
      self_deaf = self_deaf;
      comment = comment;
      priority = priority;
      recording = recording;
      begun = not-false (is_empty message.listening_channel_add) begun;
      ended = not-false (is_empty message.listening_channel_remove) ended;
    }

nothing_heard : (message : UserState) (known : KnownSession) → message.name ≡ None → message.user_id ≡ None → IsUntold message → session_heard message known ≡ known
nothing_heard message known name account none = λ i. record {
  name = ap (λ (given : Option (List ℕ)). unwrap_or given known.name) name i;
  account = ap (λ (given : Option ℕ). option_map_or (λ one. Some one) given known.account) account i;
  channel = unset message.channel_id known.channel none.channel i;
  mute = unset message.mute known.mute none.mute i;
  deaf = unset message.deaf known.deaf none.deaf i;
  suppress = unset message.suppress known.suppress none.suppress i;
  self_mute = unset message.self_mute known.self_mute none.self_mute i;
  self_deaf = unset message.self_deaf known.self_deaf none.self_deaf i;
  priority = unset message.priority_speaker known.priority none.priority i;
  recording = unset message.recording known.recording none.recording i;
  comment = unset message.comment known.comment none.comment i;
}

-- ---- to which channels a session listens

pub listens_by_pairs : (roster : RosterState) (session : SessionId) (channel : ChannelId)
    → list_any (λ pair. pair.channel.0 == channel.0) (pairs_of roster session) ≡ listens roster session channel
listens_by_pairs roster session channel = any_both (λ (pair : ListenerPair). pair.channel.0 == channel.0) (is_of_session session) roster.listeners

pub listened_is : (roster : RosterState) (session : SessionId) (channel : ChannelId) → is_listed (listened roster session) channel.0 ≡ listens roster session channel
listened_is roster session channel =
    any_mapped (λ n. n == channel.0) (λ (pair : ListenerPair). pair.channel.0) (pairs_of roster session) ∙ listens_by_pairs roster session channel

only_in_is : (roster other : RosterState) (session : SessionId) (channel : ChannelId)
    → is_listed (listened_only_in roster other session) channel.0 ≡ (listens roster session channel && not (listens other session channel))
only_in_is roster other session channel =
    let q : ListenerPair → Bool = λ pair. not (listens other session pair.channel) in
    any_mapped (λ n. n == channel.0) (λ (pair : ListenerPair). pair.channel.0) (filter q (pairs_of roster session))
    ∙ any_kept (λ (pair : ListenerPair). pair.channel.0 == channel.0) q (not (listens other session channel))
    (λ pair is. ap (λ (one : ChannelId). not (listens other session one)) (same_channel pair.channel channel (eqb-true pair.channel.0 channel.0 is))) (pairs_of roster session)
    ∙ ap (λ (b : Bool). b && not (listens other session channel)) (listens_by_pairs roster session channel)

toggled : (before after : Bool) → ((before || (after && not before)) && not (before && not after)) ≡ after
toggled true true = refl
toggled true false = refl
toggled false true = refl
toggled false false = refl

not_toggled : (before after : Bool) → (after && not before) ≡ false → (before && not after) ≡ false → before ≡ after
not_toggled true true begun ended = refl
not_toggled true false begun ended = absurd (true≢false ended)
not_toggled false true begun ended = absurd (true≢false begun)
not_toggled false false begun ended = refl

pub added_alone : (b : Bool) → ((false || b) && not false) ≡ b
added_alone true = refl
added_alone false = refl

none_counts : {X : Type 0} (p : X → Bool) (xs : List X) → Each (λ x. p x ≡ false) xs → count_by p xs ≡ 0
none_counts p [] all = refl
none_counts p (x ∷ xs) all = omega (arith, none_counts p xs all.1, count_by-cons p x xs, ap (λ (b : Bool). cond {A = ℕ} b 1 0) all.0)

-- whoever is not there listens to nothing
pub absent_listens : (roster : RosterState) (session : SessionId) (channel : ChannelId) → IsProperRoster roster → session_of roster session ≡ None → listens roster session channel ≡ false
absent_listens roster session channel proper none =
    let nobody : count_by (has_number session) roster.sessions ≡ 0 = none_counts (has_number session) roster.sessions (none_found (has_number session) roster.sessions none) in
    sym (listens_by_pairs roster session channel)
    ∙ ap (λ (pairs : List ListenerPair). list_any (λ pair. pair.channel.0 == channel.0) pairs) (none_counted (is_of_session session) roster.listeners (proper.listeners_here session nobody))

-- ---- messages about others

module _ (session : SessionId) where
  pub told_other : (roster : RosterState) (user : User) (value : Option KnownSession) → has_number session user ≡ false
      → fold (session_at session.0) value (user_told roster user ∷ []) ≡ value
  told_other roster user value apart =
      ap (λ (b : Bool). cond b (session_after (user_told roster user) value) value) (apart_sym user.session.0 session.0 apart)

  pub told_other_listens : (roster : RosterState) (channel : ℕ) (user : User) (value : Bool) → has_number session user ≡ false
      → fold (listens_at session.0 channel) value (user_told roster user ∷ []) ≡ value
  told_other_listens roster channel user value apart =
      ap (λ (b : Bool). cond b (listening_after (user_told roster user) value channel) value) (apart_sym user.session.0 session.0 apart)

  module _ (before : StateValue) (edit : Edit) (after : StateValue) where
    pub difference_other : (user : User) (value : Option KnownSession) → has_number session user ≡ false
        → fold (session_at session.0) value (user_difference before edit after user) ≡ value
    difference_other user value apart = of_found (session_of before.roster user.session)
      where
        of_message : (message : UserState) (b : Bool) → message.session ≡ Some user.session.0 → fold (session_at session.0) value (cond {A = List UserState} b (message ∷ []) []) ≡ value
        of_message message true about =
            ap (λ (given : Option ℕ). option_map_or (λ n. cond (session.0 == n) (session_after message value) value) given value) about
            ∙ ap (λ (b : Bool). cond b (session_after message value) value) (apart_sym user.session.0 session.0 apart)
        of_message message false about = refl

        of_found : (found : Option User)
            → fold (session_at session.0) value (option_map_or (λ was. if_it_tells tells_of_user (user_change_told before.roster edit after.roster was user)) found []) ≡ value
        of_found None = refl
        of_found (Some was) =
            let told = user_change_told before.roster edit after.roster was user in
            of_message told (tells_of_user told) refl

    pub difference_other_listens : (channel : ℕ) (user : User) (value : Bool) → has_number session user ≡ false
        → fold (listens_at session.0 channel) value (user_difference before edit after user) ≡ value
    difference_other_listens channel user value apart = of_found (session_of before.roster user.session)
      where
        of_message : (message : UserState) (b : Bool) → message.session ≡ Some user.session.0 → fold (listens_at session.0 channel) value (cond {A = List UserState} b (message ∷ []) []) ≡ value
        of_message message true about =
            ap (λ (given : Option ℕ). option_map_or (λ n. cond (session.0 == n) (listening_after message value channel) value) given value) about
            ∙ ap (λ (b : Bool). cond b (listening_after message value channel) value) (apart_sym user.session.0 session.0 apart)
        of_message message false about = refl

        of_found : (found : Option User)
            → fold (listens_at session.0 channel) value (option_map_or (λ was. if_it_tells tells_of_user (user_change_told before.roster edit after.roster was user)) found []) ≡ value
        of_found None = refl
        of_found (Some was) =
            let told = user_change_told before.roster edit after.roster was user in
            of_message told (tells_of_user told) refl

-- ---- messages about the session itself

module _ (session : SessionId) (before : StateValue) (edit : Edit) (after : StateValue) (was now : User)
    (number : now.session ≡ session) (known : session_of before.roster now.session ≡ Some was) where
  abbrev change : UserState
  change = user_change_told before.roster edit after.roster was now

  here : (session.0 == now.session.0) ≡ true
  here = eq-eqb session.0 now.session.0 (ap (λ (one : SessionId). one.0) (sym number))

  pub own_told : now.name ≡ was.name → now.account ≡ was.account → (gives_comment edit ≡ false → now.comment ≡ was.comment)
      → fold (session_at session.0) (Some (public_session was)) (flat_map (user_difference before edit after) (now ∷ [])) ≡ Some (public_session now)
  own_told name account comment =
      let heard = change_heard before.roster edit after.roster was now name account comment in
      ap (λ (messages : List UserState). fold (session_at session.0) (Some (public_session was)) messages)
      (append-nil (user_difference before edit after now)
      ∙ ap (λ (found : Option User). option_map_or (λ one. if_it_tells tells_of_user (user_change_told before.roster edit after.roster one now)) found []) known)
      ∙ step (tells_of_user change) refl heard
    where
      step : (b : Bool) → tells_of_user change ≡ b → session_heard change (public_session was) ≡ public_session now
          → fold (session_at session.0) (Some (public_session was)) (cond {A = List UserState} b (change ∷ []) []) ≡ Some (public_session now)
      step true tells heard =
          ap (λ (b : Bool). cond b (Some (session_heard change (public_session was))) (Some (public_session was))) here
          ∙ ap (λ (one : KnownSession). Some one) heard
      step false tells heard =
          ap (λ (one : KnownSession). Some one) (sym (nothing_heard change (public_session was) refl refl (untold change tells)) ∙ heard)

  pub own_listens : (channel : ChannelId)
      → fold (listens_at session.0 channel.0) (listens before.roster session channel) (flat_map (user_difference before edit after) (now ∷ [])) ≡ listens after.roster session channel
  own_listens channel =
      ap (λ (messages : List UserState). fold (listens_at session.0 channel.0) (listens before.roster session channel) messages)
      (append-nil (user_difference before edit after now)
      ∙ ap (λ (found : Option User). option_map_or (λ one. if_it_tells tells_of_user (user_change_told before.roster edit after.roster one now)) found []) known)
      ∙ step (tells_of_user change) refl
    where
      begun : is_listed change.listening_channel_add channel.0 ≡ (listens after.roster session channel && not (listens before.roster session channel))
      begun =
          ap (λ (one : SessionId). is_listed (listened_only_in after.roster before.roster one) channel.0) number
          ∙ only_in_is after.roster before.roster session channel

      ended : is_listed change.listening_channel_remove channel.0 ≡ (listens before.roster session channel && not (listens after.roster session channel))
      ended =
          ap (λ (one : SessionId). is_listed (listened_only_in before.roster after.roster one) channel.0) number
          ∙ only_in_is before.roster after.roster session channel

      step : (b : Bool) → tells_of_user change ≡ b
          → fold (listens_at session.0 channel.0) (listens before.roster session channel) (cond {A = List UserState} b (change ∷ []) []) ≡ listens after.roster session channel
      step true tells =
          ap (λ (b : Bool). cond b (listening_after change (listens before.roster session channel) channel.0) (listens before.roster session channel)) here
          ∙ ap (λ (b : Bool). (listens before.roster session channel || b) && not (is_listed change.listening_channel_remove channel.0)) begun
          ∙ ap (λ (b : Bool). (listens before.roster session channel || (listens after.roster session channel && not (listens before.roster session channel))) && not b) ended
          ∙ toggled (listens before.roster session channel) (listens after.roster session channel)
      step false tells =
          let none = untold change tells in
          not_toggled (listens before.roster session channel) (listens after.roster session channel)
          (sym begun ∙ ap (λ (numbers : List ℕ). is_listed numbers channel.0) (empty_is change.listening_channel_add none.begun))
          (sym ended ∙ ap (λ (numbers : List ℕ). is_listed numbers channel.0) (empty_is change.listening_channel_remove none.ended))
