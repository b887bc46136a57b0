-- What messages on channels that are others leave of each channel and of each link.
use Rattle.mum_client_laws.proofs.Common.{◌≡◌, ◌⊎◌, ℕ, ◌==◌, ◌||◌, Bool, true, false, not, cond, List, [], ◌∷◌, Option, Some, None, refl, ap, sym, ◌∙◌, inl, inr, flat_map, is_some, option_map, option_map_or, unwrap_or, int_eq, bytes_eq, eq-eqb, eqb-true, not-false, or_parts, Decides-int_eq, fold-append, bytes_eq-Decides, is_among, ChannelId, ChannelState, row_of, TreeState, Channel, Row, number_found, is_empty, channel_change_told, channel_difference, channel_of, if_it_tells, tells_of_channel, same_channel, apart_sym, channel_after, channel_heard, channels_heard, has_place, plain_channel, Channels, KnownChannel, public_channel}
use Rattle.mum_client_laws.proofs.{Folded.told_channels, Reported.number_known, Reported.said_known, Reported.unset}

-- ---- one message

pub channel_apart : (message : ChannelState) (channels : Channels) (at about : ℕ) → message.channel_id ≡ Some about → (at == about) ≡ false
    → channels_heard message channels at ≡ channels at
channel_apart message channels at about is apart =
    ap (λ (given : Option ℕ). option_map_or (λ n. cond (at == n) (channel_after channels at message) (channels at)) given (channels at)) is
    ∙ ap (λ (b : Bool). cond b (channel_after channels at message) (channels at)) apart

pub channel_own : (message : ChannelState) (channels : Channels) (at : ℕ) → message.channel_id ≡ Some at
    → channels_heard message channels at ≡ channel_after channels at message
channel_own message channels at is =
    ap (λ (given : Option ℕ). option_map_or (λ n. cond (at == n) (channel_after channels at message) (channels at)) given (channels at)) is
    ∙ ap (λ (b : Bool). cond b (channel_after channels at message) (channels at)) (eq-eqb at at refl)

pub channel_known : (message : ChannelState) (channels : Channels) (at : ℕ) (known : KnownChannel) → channels at ≡ Some known
    → channel_after channels at message ≡ Some (channel_heard message known)
channel_known message channels at known is =
    ap (λ (found : Option KnownChannel). option_map_or (λ was. Some (channel_heard message was)) found (cond (has_place channels at message) (Some (channel_heard message plain_channel)) None)) is

-- ---- the message of a channel that is another

pub number_of : (tree : TreeState) (id : ChannelId) (channel : Channel) → channel_of tree id ≡ Some channel → channel.id.0 ≡ id.0
number_of tree id channel is = of_row (row_of tree.channels id) refl is
  where
    of_row : (found : Option Row) → row_of tree.channels id ≡ found → option_map (λ (row : Row). row.channel) found ≡ Some channel → channel.id.0 ≡ id.0
    of_row None none never = cc
    of_row (Some row) there same =
        let whole : row.channel ≡ channel = cc in
        ap (λ (one : Channel). one.id.0) (sym whole) ∙ number_found tree.channels id row there

pub record IsUntold (message : ChannelState) : Type 0 where
  pub parent : is_some message.parent ≡ false
  pub name : is_some message.name ≡ false
  pub description : is_some message.description ≡ false
  pub position : is_some message.position ≡ false
  pub max_users : is_some message.max_users ≡ false
  pub added : is_empty message.links_add ≡ true
  pub removed : is_empty message.links_remove ≡ true

pub untold : (message : ChannelState) → tells_of_channel message ≡ false → IsUntold message
untold message off =
    let (six, removed) = or_parts _ (not (is_empty message.links_remove)) off in
    let (five, added) = or_parts _ (not (is_empty message.links_add)) six in
    let (four, max_users) = or_parts _ (is_some message.max_users) five in
    let (three, position) = or_parts _ (is_some message.position) four in
    let (two, description) = or_parts _ (is_some message.description) three in
    let (parent, name) = or_parts (is_some message.parent) (is_some message.name) two in record {
      parent = parent;
      name = name;
      description = description;
      position = position;
      max_users = max_users;
      added = not-false (is_empty message.links_add) added;
      removed = not-false (is_empty message.links_remove) removed;
    }

nothing_heard : (message : ChannelState) (known : KnownChannel) → message.temporary ≡ None → IsUntold message → channel_heard message known ≡ known
nothing_heard message known temporary none = λ i. record {
  parent = unset message.parent known.parent none.parent i;
  name = unset message.name known.name none.name i;
  temporary = ap (λ (given : Option Bool). unwrap_or given known.temporary) temporary i;
  description = unset message.description known.description none.description i;
  position = unset message.position known.position none.position i;
  max_users = unset message.max_users known.max_users none.max_users i;
}

module _ (before after : TreeState) where
  -- whoever knew it as it was, or as it is, knows it as it is
  heard_from_was : (was now : Channel) → was.temporary ≡ now.temporary → channel_heard (channel_change_told before after was now) (public_channel was) ≡ public_channel now
  heard_from_was was now temporary = λ i. record {
    parent = number_known was.parent.0 now.parent.0 i;
    name = said_known (bytes_eq was.name now.name) was.name now.name (bytes_eq-Decides was.name now.name).0 i;
    temporary = temporary i;
    description = said_known (bytes_eq was.info.description now.info.description) was.info.description now.info.description (bytes_eq-Decides was.info.description now.info.description).0 i;
    position = said_known (int_eq was.info.position now.info.position) was.info.position now.info.position (Decides-int_eq was.info.position now.info.position).0 i;
    max_users = number_known was.info.max_users now.info.max_users i;
  }

  heard_from_now : (was now : Channel) → channel_heard (channel_change_told before after was now) (public_channel now) ≡ public_channel now
  heard_from_now was now = λ i. record {
    parent = said_known (was.parent.0 == now.parent.0) now.parent.0 now.parent.0 (λ _. refl) i;
    name = said_known (bytes_eq was.name now.name) now.name now.name (λ _. refl) i;
    temporary = now.temporary;
    description = said_known (bytes_eq was.info.description now.info.description) now.info.description now.info.description (λ _. refl) i;
    position = said_known (int_eq was.info.position now.info.position) now.info.position now.info.position (λ _. refl) i;
    max_users = said_known (was.info.max_users == now.info.max_users) now.info.max_users now.info.max_users (λ _. refl) i;
  }

  -- a message about another channel
  difference_apart : (id : ChannelId) (at : ℕ) (channels : Channels) → (id.0 == at) ≡ false → told_channels (channel_difference before after id) channels at ≡ channels at
  difference_apart id at channels apart = of_both (channel_of before id) (channel_of after id) refl
    where
      of_message : (message : ChannelState) (b : Bool) → message.channel_id ≡ Some id.0 → told_channels (cond {A = List ChannelState} b (message ∷ []) []) channels at ≡ channels at
      of_message message true about = channel_apart message channels at id.0 about (apart_sym id.0 at apart)
      of_message message false about = refl

      of_both : (was now : Option Channel) → channel_of after id ≡ now
          → told_channels (option_map_or (λ old. option_map_or (λ new. if_it_tells tells_of_channel (channel_change_told before after old new)) now []) was []) channels at ≡ channels at
      of_both None now is = refl
      of_both (Some was) None is = refl
      of_both (Some was) (Some now) is =
          let told = channel_change_told before after was now in
          of_message told (tells_of_channel told) (ap (λ n. Some n) (number_of after id now is))

  module _ (id : ChannelId) (was now : Channel) (old : channel_of before id ≡ Some was) (new : channel_of after id ≡ Some now) (temporary : was.temporary ≡ now.temporary) where
    abbrev told : ChannelState
    told = channel_change_told before after was now

    difference_is : channel_difference before after id ≡ if_it_tells tells_of_channel told
    difference_is =
        ap (λ (found : Option Channel). option_map_or (λ one. option_map_or (λ other. if_it_tells tells_of_channel (channel_change_told before after one other)) (channel_of after id) []) found []) old
        ∙ ap (λ (found : Option Channel). option_map_or (λ other. if_it_tells tells_of_channel (channel_change_told before after was other)) found []) new

    -- it is known as it was or as it is
    abbrev pub IsEither : KnownChannel → Type 0
    IsEither known = (known ≡ public_channel was) ⊎ (known ≡ public_channel now)

    heard_either : (known : KnownChannel) → IsEither known → channel_heard told known ≡ public_channel now
    heard_either known (inl is) = ap (channel_heard told) is ∙ heard_from_was was now temporary
    heard_either known (inr is) = ap (channel_heard told) is ∙ heard_from_now was now

    difference_own : (channels : Channels) (known : KnownChannel) → IsEither known → channels id.0 ≡ Some known
        → told_channels (channel_difference before after id) channels id.0 ≡ Some (public_channel now)
    difference_own channels known either is =
        ap (λ (messages : List ChannelState). told_channels messages channels id.0) difference_is ∙ step (tells_of_channel told) refl
      where
        step : (b : Bool) → tells_of_channel told ≡ b → told_channels (cond {A = List ChannelState} b (told ∷ []) []) channels id.0 ≡ Some (public_channel now)
        step true tells =
            channel_own told channels id.0 (ap (λ n. Some n) (number_of after id now new)) ∙ channel_known told channels id.0 known is
            ∙ ap (λ (one : KnownChannel). Some one) (heard_either known either)
        step false tells =
            is ∙ ap (λ (one : KnownChannel). Some one) (sym (nothing_heard told known refl (untold told tells)) ∙ heard_either known either)

    -- after messages about all these channels it is known as it is, if it is one of them
    pub differences_at : (ids : List ChannelId) (channels : Channels) (known : KnownChannel) → IsEither known → channels id.0 ≡ Some known
        → told_channels (flat_map (channel_difference before after) ids) channels id.0 ≡ Some (cond (is_among ids id) (public_channel now) known)
    differences_at [] channels known either is = is
    differences_at (one ∷ ids) channels known either is =
        ap (λ (final : Channels). final id.0) (fold-append (λ (all : Channels) message. channels_heard message all) channels (channel_difference before after one) (flat_map (channel_difference before after) ids))
        ∙ step (one.0 == id.0) refl (differences_at ids)
      where
        step : (b : Bool) → (one.0 == id.0) ≡ b
            → ((all : Channels) (last : KnownChannel) → IsEither last → all id.0 ≡ Some last
            → told_channels (flat_map (channel_difference before after) ids) all id.0 ≡ Some (cond (is_among ids id) (public_channel now) last))
            → told_channels (flat_map (channel_difference before after) ids) (told_channels (channel_difference before after one) channels) id.0 ≡ Some (cond (b || is_among ids id) (public_channel now) known)
        step true same rest =
            rest (told_channels (channel_difference before after one) channels) (public_channel now) (inr refl)
            (ap (λ (channel : ChannelId). told_channels (channel_difference before after channel) channels id.0) (same_channel one id (eqb-true one.0 id.0 same)) ∙ difference_own channels known either is)
            ∙ ap (λ (channel : KnownChannel). Some channel) (both (is_among ids id))
          where
            both : (b : Bool) → cond b (public_channel now) (public_channel now) ≡ public_channel now
            both true = refl
            both false = refl
        step false apart rest = rest (told_channels (channel_difference before after one) channels) known either (difference_apart one id.0 channels apart ∙ is)

  -- a channel that was not there is not made by them
  pub none_told : (id : ChannelId) → channel_of before id ≡ None → (ids : List ChannelId) (channels : Channels) → channels id.0 ≡ None
      → told_channels (flat_map (channel_difference before after) ids) channels id.0 ≡ None
  none_told id none [] channels is = is
  none_told id none (one ∷ ids) channels is =
      ap (λ (final : Channels). final id.0) (fold-append (λ (all : Channels) message. channels_heard message all) channels (channel_difference before after one) (flat_map (channel_difference before after) ids))
      ∙ none_told id none ids (told_channels (channel_difference before after one) channels) (step (one.0 == id.0) refl)
    where
      step : (b : Bool) → (one.0 == id.0) ≡ b → told_channels (channel_difference before after one) channels id.0 ≡ None
      step true same =
          ap (λ (channel : ChannelId). told_channels (channel_difference before after channel) channels id.0) (same_channel one id (eqb-true one.0 id.0 same))
          ∙ ap (λ (found : Option Channel). told_channels (option_map_or (λ old. option_map_or (λ new. if_it_tells tells_of_channel (channel_change_told before after old new)) (channel_of after id) []) found []) channels id.0) none
          ∙ is
      step false apart = difference_apart one id.0 channels apart ∙ is
