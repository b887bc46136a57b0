-- What of a departure and of a text is brought to whom.
use Rattle.mum_command_laws.proofs.Common.{◌≡◌, ℕ, ◌==◌, ◌||◌, Bool, true, false, not, List, [], map, refl, sym, inl, inr, Contains, filter, list_any, unwrap_or, and_from, eq-eqb, not_from_false, or_left, or_right, All-contains, All-weaker, is_among, ChannelId, SessionId, is_below, User, is_empty, StateValue, Edit, channel_changes_told, new_channels_told, said_unless, channel_gone, channels_gone, departure, last_parcel, user_kicked, user_left, arrival, closes, notices, all_to_each, channel_frame, channel_gone_frame, parcel, text_frame, to_each, user_frame, user_gone_frame, is_for, is_in_trees, is_named, may_text, permission_parcels, text_parcels, text_told, said_if_set, user_changes_told, Notice, KicksAreReported, LeavesAreReported, IsMeant, TextsAreSent}
use Rattle.mum_state.specs.declared.edit.Edit.TheVariants.{Kick, Leave, Text}
use Rattle.mum_command_laws.proofs.{Knowing.empty_is, Contained.any_of, Contained.in_first, Contained.in_fourth, Contained.in_map, Contained.in_second, Contained.in_third, Contained.in_seventh, Contained.in_sixth, Contained.passing_in, Contained.reaches_in, Contained.to_each_reaches}

-- ---- the parts of what is sent

module _ (before : StateValue) (edit : Edit) (after : StateValue) (notice : Notice) where
  pub in_new_channels : Contains (all_to_each after.roster.sessions (map channel_frame (new_channels_told after edit))) notice → Contains (notices before edit after) notice
  in_new_channels there =
      in_first
      (all_to_each after.roster.sessions (map channel_frame (new_channels_told after edit)))
      (all_to_each after.roster.sessions (map channel_frame (channel_changes_told before edit after)))
      (arrival after edit)
      (all_to_each after.roster.sessions (map user_frame (user_changes_told before edit after (closes before edit after))))
      (all_to_each after.roster.sessions (map (λ id. channel_gone_frame (channel_gone id)) (channels_gone before edit after)))
      (departure before edit after) (text_parcels after edit) (permission_parcels after edit) notice there

  pub in_arrival : Contains (arrival after edit) notice → Contains (notices before edit after) notice
  in_arrival there =
      in_third
      (all_to_each after.roster.sessions (map channel_frame (new_channels_told after edit)))
      (all_to_each after.roster.sessions (map channel_frame (channel_changes_told before edit after)))
      (arrival after edit)
      (all_to_each after.roster.sessions (map user_frame (user_changes_told before edit after (closes before edit after))))
      (all_to_each after.roster.sessions (map (λ id. channel_gone_frame (channel_gone id)) (channels_gone before edit after)))
      (departure before edit after) (text_parcels after edit) (permission_parcels after edit) notice there

  pub in_changes_of_channels : Contains (all_to_each after.roster.sessions (map channel_frame (channel_changes_told before edit after))) notice → Contains (notices before edit after) notice
  in_changes_of_channels there =
      in_second (all_to_each after.roster.sessions (map channel_frame (new_channels_told after edit)))
      (all_to_each after.roster.sessions (map channel_frame (channel_changes_told before edit after)))
      (arrival after edit)
      (all_to_each after.roster.sessions (map user_frame (user_changes_told before edit after (closes before edit after))))
      (all_to_each after.roster.sessions (map (λ id. channel_gone_frame (channel_gone id)) (channels_gone before edit after)))
      (departure before edit after) (text_parcels after edit) (permission_parcels after edit) notice there

  pub in_changes_of_users : Contains (all_to_each after.roster.sessions (map user_frame (user_changes_told before edit after (closes before edit after)))) notice → Contains (notices before edit after) notice
  in_changes_of_users there =
      in_fourth (all_to_each after.roster.sessions (map channel_frame (new_channels_told after edit)))
      (all_to_each after.roster.sessions (map channel_frame (channel_changes_told before edit after)))
      (arrival after edit)
      (all_to_each after.roster.sessions (map user_frame (user_changes_told before edit after (closes before edit after))))
      (all_to_each after.roster.sessions (map (λ id. channel_gone_frame (channel_gone id)) (channels_gone before edit after)))
      (departure before edit after) (text_parcels after edit) (permission_parcels after edit) notice there

  in_departure : Contains (departure before edit after) notice → Contains (notices before edit after) notice
  in_departure there =
      in_sixth (all_to_each after.roster.sessions (map channel_frame (new_channels_told after edit)))
      (all_to_each after.roster.sessions (map channel_frame (channel_changes_told before edit after)))
      (arrival after edit)
      (all_to_each after.roster.sessions (map user_frame (user_changes_told before edit after (closes before edit after))))
      (all_to_each after.roster.sessions (map (λ id. channel_gone_frame (channel_gone id)) (channels_gone before edit after)))
      (departure before edit after) (text_parcels after edit) (permission_parcels after edit) notice there

  in_texts : Contains (text_parcels after edit) notice → Contains (notices before edit after) notice
  in_texts there =
      in_seventh (all_to_each after.roster.sessions (map channel_frame (new_channels_told after edit)))
      (all_to_each after.roster.sessions (map channel_frame (channel_changes_told before edit after)))
      (arrival after edit)
      (all_to_each after.roster.sessions (map user_frame (user_changes_told before edit after (closes before edit after))))
      (all_to_each after.roster.sessions (map (λ id. channel_gone_frame (channel_gone id)) (channels_gone before edit after)))
      (departure before edit after) (text_parcels after edit) (permission_parcels after edit) notice there

-- ---- departures

pub leaves_are_reported_lem : LeavesAreReported
leaves_are_reported_lem before after session = (
  user_left session,
  refl,
  refl,
  reaches_in (departure before (Leave session) after) (notices before (Leave session) after) (user_gone_frame (user_left session)) after.roster.sessions
      (in_departure before (Leave session) after) (to_each_reaches after.roster.sessions (user_gone_frame (user_left session))),
)

reason_said : (b : Bool) (reason : List ℕ) → (b ≡ true → reason ≡ []) → unwrap_or (said_unless b reason) [] ≡ reason
reason_said true reason none = sym (none refl)
reason_said false reason none = refl

ban_said : (ban : Bool) → unwrap_or (said_if_set ban) false ≡ ban
ban_said true = refl
ban_said false = refl

pub kicks_are_reported_lem : KicksAreReported
kicks_are_reported_lem before after session actor reason ban =
    let edit = Kick session actor reason ban in
    let frame = user_gone_frame (user_kicked session actor reason ban) in (
      user_kicked session actor reason ban,
      refl,
      refl,
      reason_said (is_empty reason) reason (empty_is reason),
      ban_said ban,
      All-weaker (λ user. Contains (departure before edit after) (last_parcel session frame user))
          (λ user. (notice : Notice) × Contains (notices before edit after) notice × ((notice.to ≡ user.session) × (notice.slot ≡ user.slot)) × (notice.bytes ≡ frame))
          (λ user there. (last_parcel session frame user, in_departure before edit after (last_parcel session frame user) there, (refl, refl), refl))
          before.roster.sessions (in_map (last_parcel session frame) before.roster.sessions),
    )

-- ---- texts

named_here : (sessions : List SessionId) (user : User) → Contains sessions user.session → is_named sessions user ≡ true
named_here sessions user there =
    All-contains (λ session. (session.0 == user.session.0) ≡ true → is_named sessions user ≡ true) sessions user.session
    (any_of (λ session. session.0 == user.session.0) sessions) there (eq-eqb user.session.0 user.session.0 refl)

among_here : (channels : List ChannelId) (id : ChannelId) → Contains channels id → is_among channels id ≡ true
among_here channels id there =
    All-contains (λ one. (one.0 == id.0) ≡ true → is_among channels id ≡ true) channels id (any_of (λ one. one.0 == id.0) channels) there (eq-eqb id.0 id.0 refl)

in_tree : (state : StateValue) (actor : SessionId) (trees : List ChannelId) (user : User) (top : ChannelId) → Contains trees top
    → is_below state.tree.channels top user.channel ≡ true → may_text state actor user.channel ≡ true → is_in_trees state actor trees user ≡ true
in_tree state actor trees user top there below may =
    and_from (list_any (λ one. is_below state.tree.channels one user.channel) trees) (may_text state actor user.channel)
    (All-contains (λ one. is_below state.tree.channels one user.channel ≡ true → list_any (λ other. is_below state.tree.channels other user.channel) trees ≡ true)
    trees top (any_of (λ one. is_below state.tree.channels one user.channel) trees) there below)
    may

meant : (state : StateValue) (actor : SessionId) (sessions : List SessionId) (channels trees : List ChannelId) (user : User)
    → IsMeant state actor sessions channels trees user
    → (is_named sessions user || is_among channels user.channel || is_in_trees state actor trees user) ≡ true
meant state actor sessions channels trees user (inl there) =
    or_left (is_named sessions user || is_among channels user.channel) (is_in_trees state actor trees user)
    (or_left (is_named sessions user) (is_among channels user.channel) (named_here sessions user there))
meant state actor sessions channels trees user (inr (inl there)) =
    or_left (is_named sessions user || is_among channels user.channel) (is_in_trees state actor trees user)
    (or_right (is_named sessions user) (is_among channels user.channel) (among_here channels user.channel there))
meant state actor sessions channels trees user (inr (inr (top, there, below, may))) =
    or_right (is_named sessions user || is_among channels user.channel) (is_in_trees state actor trees user)
    (in_tree state actor trees user top there below may)

pub texts_are_sent_lem : TextsAreSent
texts_are_sent_lem before after actor sessions channels trees text user here other for_it =
    let edit = Text actor sessions channels trees text in
    let message = text_told actor sessions channels trees text in
    let test : (User → Bool) = is_for after actor sessions channels trees in
    let receivers = filter (is_for after actor sessions channels trees) after.roster.sessions in
    let is_for_it : is_for after actor sessions channels trees user ≡ true =
    and_from (not (user.session.0 == actor.0)) (is_named sessions user || is_among channels user.channel || is_in_trees after actor trees user)
    (not_from_false (user.session.0 == actor.0) other) (meant after actor sessions channels trees user for_it) in
    let receives = All-contains (λ one. is_for after actor sessions channels trees one ≡ true → Contains receivers one) after.roster.sessions user
    (passing_in (is_for after actor sessions channels trees) after.roster.sessions) here is_for_it in (
      message,
      refl,
      refl,
      in_texts before edit after (parcel (text_frame message) user)
          (All-contains (λ one. Contains (to_each receivers (text_frame message)) (parcel (text_frame message) one)) receivers user (to_each_reaches receivers (text_frame message)) receives),
    )
