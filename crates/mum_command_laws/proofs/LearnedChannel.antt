-- What is reported of a channel reports all that changed in it.
use Rattle.mum_command_laws.proofs.Common.{◌≡◌, ℕ, ◌==◌, Bool, true, false, not, List, [], map, Option, Some, refl, ap, sym, ◌∙◌, subst, inl, inr, ⊎_elim, ◌⊎◌, signed_Decides, All, Contains, filter, is_some, option_map_or, int_eq, bytes_eq, cases_Bool, eq-eqb, eqb-true, not-false, or_parts, All-contains, All-contains_itself, All-filter, All-nil, All-weaker, bytes_eq-Decides, is_among, ChannelId, ChannelState, is_there, number, row_of, TreeState, partners, Channel, Row, applied, is_empty, StateValue, Edit, found_passes, something_mapped, channel_change_told, channel_changes_told, channel_difference, channel_of, edited_channels, if_it_tells, tells_of_channel, notices, all_to_each, channel_frame, other_channels_stand_lem, ChannelChangesAreReported, LearnsChannel, LearnsLinks, ReachesAll}
use Rattle.mum_command_laws.proofs.{Brought.in_changes_of_channels, Contained.among_in, Contained.any_of, Contained.each_reaches, Contained.in_flat_map, Contained.in_map, Contained.passes_or_listed, Contained.passing_in, Contained.reaches_in, Knowing.each_of_told, Knowing.known_after, Knowing.listed_after, Knowing.number_known, Knowing.said_known}

-- ---- a message that reports nothing

record IsUntold (message : ChannelState) : Type 0 where
  parent : is_some message.parent ≡ false
  name : is_some message.name ≡ false
  description : is_some message.description ≡ false
  position : is_some message.position ≡ false
  max_users : is_some message.max_users ≡ false
  added : is_empty message.links_add ≡ true
  removed : is_empty message.links_remove ≡ true

untold : (message : ChannelState) → tells_of_channel message ≡ false → IsUntold message
untold message off =
    let (six, removed) = or_parts _ (not (is_empty message.links_remove)) off in
    let (five, added) = or_parts _ (not (is_empty message.links_add)) six in
    let (four, max_users) = or_parts _ (is_some message.max_users) five in
    let (three, position) = or_parts _ (is_some message.position) four in
    let (two, description) = or_parts _ (is_some message.description) three in
    let (parent, name) = or_parts (is_some message.parent) (is_some message.name) two in record {
      parent = parent;
      name = name;
      description = description;
      position = position;
      max_users = max_users;
      added = not-false (is_empty message.links_add) added;
      removed = not-false (is_empty message.links_remove) removed;
    }

-- ---- what the message of a change reports

module _ (before after : TreeState) (was now : Channel) where
  learned : LearnsChannel (if_it_tells tells_of_channel (channel_change_told before after was now)) was now
  learned =
      let told = channel_change_told before after was now in
      let tells = tells_of_channel told in record {
        channel = each_of_told (λ (message : ChannelState). message.channel_id ≡ Some now.id.0) told tells refl;
        parent = known_after (λ (message : ChannelState). message.parent) was.parent.0 now.parent.0 told tells (number_known was.parent.0 now.parent.0) (λ off. (untold told off).parent);
        name = known_after (λ (message : ChannelState). message.name) was.name now.name told tells
            (said_known (bytes_eq was.name now.name) was.name now.name (bytes_eq-Decides was.name now.name).0) (λ off. (untold told off).name);
        description = known_after (λ (message : ChannelState). message.description) was.info.description now.info.description told tells
            (said_known (bytes_eq was.info.description now.info.description) was.info.description now.info.description (bytes_eq-Decides was.info.description now.info.description).0)
            (λ off. (untold told off).description);
        position = known_after (λ (message : ChannelState). message.position) was.info.position now.info.position told tells
            (said_known (int_eq was.info.position now.info.position) was.info.position now.info.position (signed_Decides was.info.position now.info.position).0)
            (λ off. (untold told off).position);
        max_users = known_after (λ (message : ChannelState). message.max_users) was.info.max_users now.info.max_users told tells
            (number_known was.info.max_users now.info.max_users) (λ off. (untold told off).max_users);
      }

  learned_links : LearnsLinks (if_it_tells tells_of_channel (channel_change_told before after was now)) now.id before after
  learned_links =
      let told = channel_change_told before after was now in
      let tells = tells_of_channel told in record {
        added = subst (λ (l : List ℕ). All (λ other. (is_among (partners before now.id) other ≡ true) ⊎ Contains l other.0) (partners after now.id))
            (listed_after (λ (message : ChannelState). message.links_add) told tells (λ off. (untold told off).added))
            (passes_or_listed (is_among (partners before now.id)) (λ (other : ChannelId). other.0) (partners after now.id));
        removed = subst (λ (l : List ℕ). All (λ other. (is_there after.channels other ≡ false) ⊎ ((is_among (partners after now.id) other ≡ true) ⊎ Contains l other.0)) (partners before now.id))
            (listed_after (λ (message : ChannelState). message.links_remove) told tells (λ off. (untold told off).removed))
            (All-weaker (λ other. (is_among (partners after now.id) other ≡ true) ⊎ Contains told.links_remove other.0)
            (λ other. (is_there after.channels other ≡ false) ⊎ ((is_among (partners after now.id) other ≡ true) ⊎ Contains told.links_remove other.0))
            (λ other listed. inr listed) (partners before now.id)
            (passes_or_listed (is_among (partners after now.id)) (λ (other : ChannelId). other.0) (partners before now.id)));
      }

-- ---- a channel of which nothing is another

nothing_learned : (was now : Channel) → was ≡ now → LearnsChannel [] was now
nothing_learned was now same =
    subst (LearnsChannel [] was) same (record {
      channel = All-nil (λ (message : ChannelState). message.channel_id ≡ Some was.id.0);
      parent = refl;
      name = refl;
      description = refl;
      position = refl;
      max_users = refl;
    })

among_of : (ids : List ChannelId) (id : ChannelId) → Contains ids id → is_among ids id ≡ true
among_of ids id there =
    All-contains (λ one. (one.0 == id.0) ≡ true → is_among ids id ≡ true) ids id (any_of (λ one. one.0 == id.0) ids) there (eq-eqb id.0 id.0 refl)

among_each : (ids : List ChannelId) → All (λ id. is_among ids id ≡ true) ids
among_each ids = All-weaker (Contains ids) (λ id. is_among ids id ≡ true) (λ id there. among_of ids id there) ids (each_in ids)
  where
    each_in : (all : List ChannelId) → All (Contains all) all
    each_in all = All-contains_itself all

nothing_linked : (id : ChannelId) (before after : TreeState) → partners after id ≡ filter (is_there after.channels) (partners before id) → LearnsLinks [] id before after
nothing_linked id before after same =
    let old = partners before id in
    let there : (ChannelId → Bool) = is_there after.channels in
    let kept = filter (is_there after.channels) (partners before id) in record {
      added = subst (All (λ other. (is_among old other ≡ true) ⊎ Contains [] other.0)) (sym same)
          (All-weaker (λ other. is_among old other ≡ true) (λ other. (is_among old other ≡ true) ⊎ Contains [] other.0) (λ other among. inl among) kept
          (All-filter (is_there after.channels) (λ other. is_among old other ≡ true) old (among_each old)));
      removed = subst (λ (l : List ChannelId). All (λ other. (is_there after.channels other ≡ false) ⊎ ((is_among l other ≡ true) ⊎ Contains [] other.0)) old) (sym same)
          (All-weaker (λ other. is_there after.channels other ≡ true → Contains kept other)
          (λ other. (is_there after.channels other ≡ false) ⊎ ((is_among kept other ≡ true) ⊎ Contains [] other.0))
          (λ other stays. ⊎_elim (λ (on : is_there after.channels other ≡ true). inr (inl (among_of kept other (stays on)))) (λ (off : is_there after.channels other ≡ false). inl off)
          (cases_Bool (is_there after.channels other)))
          old (passing_in (is_there after.channels) old));
    }

-- ---- what is sent

-- a channel that is found has the number
number_is : (tree : TreeState) (id : ChannelId) (channel : Channel) → channel_of tree id ≡ Some channel → id ≡ channel.id
number_is tree id channel found =
    let (row, here, is) = something_mapped (λ (row : Row). row.channel) (row_of tree.channels id) channel found in
    let same : row.channel.id.0 ≡ id.0 = eqb-true row.channel.id.0 id.0 (found_passes (λ (one : Row). number one == id.0) tree.channels row here) in
    let by_number : row.channel.id ≡ id = ap (λ (n : ℕ). record { 0 = n }) same in
    sym by_number ∙ ap (λ (c : Channel). c.id) is

difference_is : (before after : TreeState) (id : ChannelId) (was now : Channel) → channel_of before id ≡ Some was → channel_of after id ≡ Some now
    → if_it_tells tells_of_channel (channel_change_told before after was now) ≡ channel_difference before after id
difference_is before after id was now was_is now_is =
    sym (ap (λ (o : Option Channel). option_map_or (λ one. option_map_or (λ other. if_it_tells tells_of_channel (channel_change_told before after one other)) (channel_of after id) []) o []) was_is
    ∙ ap (λ (o : Option Channel). option_map_or (λ other. if_it_tells tells_of_channel (channel_change_told before after was other)) o []) now_is)

-- what is reported of a channel that is edited goes to everybody
sent_to_all : (before : StateValue) (edit : Edit) (after : StateValue) (id : ChannelId) → is_among (edited_channels edit) id ≡ true
    → All (λ message. ReachesAll (notices before edit after) (channel_frame message) after.roster.sessions) (channel_difference before.tree after.tree id)
sent_to_all before edit after id edited =
    let told = channel_changes_told before edit after in
    let frames = map channel_frame told in
    let users = after.roster.sessions in
    All-weaker (Contains told) (λ message. ReachesAll (notices before edit after) (channel_frame message) users)
    (λ message there. reaches_in (all_to_each users frames) (notices before edit after) (channel_frame message) users (in_changes_of_channels before edit after)
    (All-contains (λ frame. ReachesAll (all_to_each users frames) frame users) frames (channel_frame message) (each_reaches users frames)
    (All-contains (λ one. Contains frames (channel_frame one)) told message (in_map channel_frame told) there)))
    (channel_difference before.tree after.tree id)
    (All-contains (λ one. All (Contains told) (channel_difference before.tree after.tree one)) (edited_channels edit) id
    (in_flat_map (channel_difference before.tree after.tree) (edited_channels edit)) (among_in (edited_channels edit) id edited))

pub channel_changes_are_reported_lem : ChannelChangesAreReported
channel_changes_are_reported_lem state edit id was now proper fit was_is now_is =
    let after = applied state edit in
    ⊎_elim
    (λ (edited : is_among (edited_channels edit) id ≡ true).
    let same = difference_is state.tree after.tree id was now was_is now_is in (
      channel_difference state.tree after.tree id,
      subst (λ (l : List ChannelState). LearnsChannel l was now) same (learned state.tree after.tree was now),
      subst (λ (l : List ChannelState). LearnsLinks l now.id state.tree after.tree) same (learned_links state.tree after.tree was now),
      sent_to_all state edit after id edited,
    ))
    (λ (other : is_among (edited_channels edit) id ≡ false).
    let (stays, linked) = other_channels_stand_lem state edit id was now proper fit other was_is now_is in (
      [],
      nothing_learned was now stays,
      subst (λ (c : ChannelId). LearnsLinks [] c state.tree after.tree) (number_is after.tree id now now_is) (nothing_linked id state.tree after.tree linked),
      All-nil (λ message. ReachesAll (notices state edit after) (channel_frame message) after.roster.sessions),
    ))
    (cases_Bool (is_among (edited_channels edit) id))
