-- A channel that goes with all below it.
use Rattle.mum_state.proofs.Common.{◌≡◌, ◌↔◌, not, Bool, true, false, cond, eqb, map, refl, is_none, None, Some, ChannelId, NoChannel, RootFixed, fault_of_remove, parent_of, is_below, is_there, TreeState, without_subtree, removes_both_ways, none_stands, User, deaf_is_mute, IsProper-mapped, KeepsIdentity, IsProper, is_sound_user, moved_up, with_members_moved_up, with_tree, StateValue}
use Rattle.mum_state.proofs.{Givens.is_none_of, Givens.none_is, Gone.moved_stay, Gone.moved_were, Listed.all_map, Parted.cut, Parted.with_roster}

-- moving up changes the channel alone
moved_keeps : (tree : TreeState) (id : ChannelId) → KeepsIdentity (moved_up tree id)
moved_keeps tree id = record {
  session = λ user. session_of user (is_below tree.channels id user.channel);
  slot = λ user. slot_of user (is_below tree.channels id user.channel);
  name = λ user. name_of user (is_below tree.channels id user.channel);
  silence = λ user. mute_of user (is_below tree.channels id user.channel);
}
  where
    session_of : (user : User) (b : Bool) → (cond b (record user { channel = parent_of tree id }) user).session ≡ user.session
    session_of user true = refl
    session_of user false = refl

    slot_of : (user : User) (b : Bool) → (cond b (record user { channel = parent_of tree id }) user).slot ≡ user.slot
    slot_of user true = refl
    slot_of user false = refl

    name_of : (user : User) (b : Bool) → (cond b (record user { channel = parent_of tree id }) user).name ≡ user.name
    name_of user true = refl
    name_of user false = refl

    mute_of : (user : User) (b : Bool) → deaf_is_mute user ≡ true → deaf_is_mute (cond b (record user { channel = parent_of tree id }) user) ≡ true
    mute_of user true mute = mute
    mute_of user false mute = mute

moved_sound : (tree : TreeState) (id : ChannelId) (user : User) → is_sound_user user ≡ true → is_sound_user (moved_up tree id user) ≡ true
moved_sound tree id user sound = step (is_below tree.channels id user.channel)
  where
    step : (b : Bool) → is_sound_user (cond b (record user { channel = parent_of tree id }) user) ≡ true
    step true = sound
    step false = sound

-- with members moved up the state is still proper
pub moved_proper : (state : StateValue) (id : ChannelId) → IsProper state → is_there state.tree.channels id ≡ true → IsProper (with_members_moved_up state id)
moved_proper state id proper there =
    with_roster state (record state.roster { sessions = map (moved_up state.tree id) state.roster.sessions }) proper
    (IsProper-mapped state.roster (moved_up state.tree id) (moved_keeps state.tree id) proper.roster)
    (all_map is_sound_user is_sound_user (moved_up state.tree id) (moved_sound state.tree id) state.roster.sessions proper.users)
    (moved_were state.tree id state.roster.sessions proper.tree there proper.inside)
    proper.listening

remove_to : (state : StateValue) (id : ChannelId) → IsProper state → is_there state.tree.channels id ≡ true → fault_of_remove state.tree id ≡ None
    → IsProper (with_tree (with_members_moved_up state id) (without_subtree state.tree id))
remove_to state id proper there allowed =
    let (named, rest) = none_stands (not (is_there state.tree.channels id)) NoChannel (cond (eqb id.0 0) (Some RootFixed) None) allowed in
    let (under, end) = none_stands (eqb id.0 0) RootFixed None rest in
    cut (with_members_moved_up state id) (λ channel. not (is_below state.tree.channels id channel)) (moved_proper state id proper there)
    ((removes_both_ways state.tree id proper.tree there).0 allowed)
    (moved_stay state.tree id state.roster.sessions proper.tree there under proper.inside)

-- nothing forbids a removal exactly where the state after it is proper
pub removals_both_ways : (state : StateValue) (id : ChannelId) → IsProper state → is_there state.tree.channels id ≡ true
    → (is_none (fault_of_remove state.tree id) ≡ true) ↔ IsProper (with_tree (with_members_moved_up state id) (without_subtree state.tree id))
removals_both_ways state id proper there = (
  λ allowed. remove_to state id proper there (none_is (fault_of_remove state.tree id) allowed),
  λ after. is_none_of (fault_of_remove state.tree id) ((removes_both_ways state.tree id proper.tree there).1 after.tree),
)
