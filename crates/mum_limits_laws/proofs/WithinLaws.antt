-- What a proper state says of the numbers of things.
use Rattle.mum_limits_laws.proofs.Common.{◌≡◌, ◌≤◌, ◌<◌, ◌==◌, ◌&&◌, ◌||◌, ℕ, not, Bool, true, false, cond, List, [], ◌∷◌, length, Option, Some, None, refl, ap, subst, arith, is_none, nat_le, nat_lt, sum_by, All, count_by, list_all, list_any, and_parts, false≢true, or_parts, nat_tests, length-reverse, All-cons, All-nil, AllPass-from_list_all, NameFault, Empty, TooLong, ChannelPolicy, AclEntry, GroupRow, is_large_group, is_large_policy, is_long_whom, upward, upward_within, TargetRow, TargetItem, User, is_sound, are_tokens, is_context, is_long_token, is_oversize, count_by-cons, SlotsRise-within, applied, fits, IsProper, is_name, is_short, is_sound_channel, is_sound_entry, is_sound_policy, is_sound_user, is_text, PolicyRow, StateValue, fit_proper, FitsWhereAccepted, accepted_fits, user_accepted_fits, AreFewChannels, AreFewSessions, IsSmallPolicy, IsSmallTarget, IsSmallUser, TreeCommandsKeepWithin, UserCommandsKeepWithin, ValidStatesAreWithin}

-- ---- tests

at_most : (limit n : ℕ) → nat_lt limit n ≡ false → n ≤ limit
at_most limit n is = grind (arith, nat_tests)

within : (n limit : ℕ) → nat_le n limit ≡ true → n ≤ limit
within n limit is = grind (arith, nat_tests)

some_number : (n : ℕ) → (n == 0) ≡ false → 0 < n
some_number n is = grind (arith, nat_tests)

all_so : {X : Type 0} (p : X → Bool) (P : X → Type 0) → ((x : X) → p x ≡ true → P x) → (xs : List X) → list_all p xs ≡ true → All P xs
all_so p P so xs is = λ k d inside. so _ (AllPass-from_list_all p xs is k d inside)

none_so : {X : Type 0} (p : X → Bool) (P : X → Type 0) → ((x : X) → p x ≡ false → P x) → (xs : List X) → list_any p xs ≡ false → All P xs
none_so p P so [] is = All-nil P
none_so p P so (x ∷ xs) is = let parts = or_parts (p x) (list_any p xs) is in All-cons P x xs (so x parts.0) (none_so p P so xs parts.1)

not_true : (b : Bool) → not b ≡ true → b ≡ false
not_true true is = absurd (false≢true is)
not_true false is = refl

short_text : (text : List ℕ) → is_text text ≡ true → length text ≤ 20000
short_text text is = step (nat_lt 20000 (length text)) refl is
  where
    step : (b : Bool) → nat_lt 20000 (length text) ≡ b → is_none (cond b (Some TooLong) None) ≡ true → length text ≤ 20000
    step true on none = absurd (false≢true none)
    step false off none = at_most 20000 (length text) off

good_name : (name : List ℕ) → is_name name ≡ true → (0 < length name) × (length name ≤ 128)
good_name name is = step _ (length name == 0) refl (nat_lt 128 (length name)) refl is
  where
    step : (rest : Option NameFault) (empty : Bool) → (length name == 0) ≡ empty → (long : Bool) → nat_lt 128 (length name) ≡ long
        → is_none (cond empty (Some Empty) (cond long (Some TooLong) rest)) ≡ true → (0 < length name) × (length name ≤ 128)
    step rest true on long also none = absurd (false≢true none)
    step rest false off true also none = absurd (false≢true none)
    step rest false off false also none = (some_number (length name) off, at_most 128 (length name) also)

-- ---- channels

small_policy : (policy : ChannelPolicy) → is_sound_policy policy ≡ true → IsSmallPolicy policy
small_policy policy sound =
    let (front, entries) = and_parts (not (is_large_policy policy) && list_all (λ (group : GroupRow). is_name group.name) policy.groups) (list_all is_sound_entry policy.acls) sound in
    let (small, named) = and_parts (not (is_large_policy policy)) (list_all (λ (group : GroupRow). is_name group.name) policy.groups) front in
    let (three, long) = or_parts (nat_lt 64 (length policy.groups) || nat_lt 128 (length policy.acls) || list_any is_large_group policy.groups)
    (list_any (λ (entry : AclEntry). is_long_whom entry.whom) policy.acls) (not_true (is_large_policy policy) small) in
    let (two, large) = or_parts (nat_lt 64 (length policy.groups) || nat_lt 128 (length policy.acls)) (list_any is_large_group policy.groups) three in
    let (groups, acls) = or_parts (nat_lt 64 (length policy.groups)) (nat_lt 128 (length policy.acls)) two in
    record {
      acls = at_most 128 (length policy.acls) acls;
      groups = at_most 64 (length policy.groups) groups;
      accounts = none_so is_large_group (λ group. (length group.add ≤ 256) × (length group.remove ≤ 256))
          (λ group is. (let (add, remove) = or_parts (nat_lt 256 (length group.add)) (nat_lt 256 (length group.remove)) is in (at_most 256 (length group.add) add, at_most 256 (length group.remove) remove)))
          policy.groups large;
      names = all_so (λ (group : GroupRow). is_name group.name) (λ group. length group.name ≤ 128) (λ group is. (good_name group.name is).1) policy.groups named;
    }

few_channels : (state : StateValue) → IsProper state → AreFewChannels state
few_channels state proper = record {
  channels = proper.tree.few;
  most = proper.tree.limited;
  depth = λ id. omega (arith, length-reverse (upward state.tree.channels 33 id), upward_within state.tree.channels 33 id);
  names = all_so is_sound_channel (λ row. (0 < length row.channel.name) × (length row.channel.name ≤ 128))
      (λ row is. good_name row.channel.name (and_parts (is_name row.channel.name) (is_text row.channel.info.description) is).0) state.tree.channels proper.channels;
  descriptions = all_so is_sound_channel (λ row. length row.channel.info.description ≤ 20000)
      (λ row is. short_text row.channel.info.description (and_parts (is_name row.channel.name) (is_text row.channel.info.description) is).1) state.tree.channels proper.channels;
  links = proper.tree.joined.few_each;
  policies = all_so (λ (row : PolicyRow). is_sound_policy row.policy) (λ row. IsSmallPolicy row.policy) (λ row is. small_policy row.policy is) state.policies proper.sound_policies;
}

-- ---- sessions

small_user : (user : User) → is_sound_user user ≡ true → IsSmallUser user
small_user user sound =
    let (three, context) = and_parts (is_short user.name && are_tokens user.tokens && is_text user.comment) (is_context user.context) sound in
    let (two, comment) = and_parts (is_short user.name && are_tokens user.tokens) (is_text user.comment) three in
    let (name, tokens) = and_parts (is_short user.name) (are_tokens user.tokens) two in
    let (few, short) = and_parts (nat_le (length user.tokens) 64) (not (list_any is_long_token user.tokens)) tokens in
    record {
      name = within (length user.name) 128 name;
      tokens = within (length user.tokens) 64 few;
      bytes = none_so is_long_token (λ token. length token ≤ 128) (λ token is. at_most 128 (length token) is) user.tokens (not_true (list_any is_long_token user.tokens) short);
      comment = short_text user.comment comment;
      context = within (length user.context) 1024 context;
    }

small_target : (row : TargetRow) → is_sound row ≡ true → IsSmallTarget row
small_target row sound =
    let (three, large) = or_parts ((row.id == 0) || nat_lt 30 row.id || (length row.target.items == 0)) (is_oversize row.target) (not_true _ sound) in
    let (two, some) = or_parts ((row.id == 0) || nat_lt 30 row.id) (length row.target.items == 0) three in
    let (zero, above) = or_parts (row.id == 0) (nat_lt 30 row.id) two in
    let (both, long) = or_parts (nat_lt 16 (length row.target.items) || nat_lt 128 (sum_by (λ item. length item.sessions) row.target.items))
    (list_any (λ (item : TargetItem). nat_lt 128 (length item.group)) row.target.items) large in
    let (items, sessions) = or_parts (nat_lt 16 (length row.target.items)) (nat_lt 128 (sum_by (λ item. length item.sessions) row.target.items)) both in
    record {
      id = (some_number row.id zero, at_most 30 row.id above);
      items = at_most 16 (length row.target.items) items;
      sessions = at_most 128 (sum_by (λ item. length item.sessions) row.target.items) sessions;
      groups = none_so (λ (item : TargetItem). nat_lt 128 (length item.group)) (λ item. length item.group ≤ 128) (λ item is. at_most 128 (length item.group) is) row.target.items long;
    }

-- where none is counted that fails, each passes
each_target : (rows : List TargetRow) → count_by (λ row. not (is_sound row)) rows ≡ 0 → All IsSmallTarget rows
each_target [] none = All-nil IsSmallTarget
each_target (row ∷ rows) none = step (is_sound row) refl (each_target rows)
  where
    step : (b : Bool) → is_sound row ≡ b → (count_by (λ one. not (is_sound one)) rows ≡ 0 → All IsSmallTarget rows) → All IsSmallTarget (row ∷ rows)
    step true is rest =
        All-cons IsSmallTarget row rows (small_target row is)
        (rest (omega (arith, none, count_by-cons (λ (one : TargetRow). not (is_sound one)) row rows, ap (λ (b : Bool). cond {A = ℕ} (not b) 1 0) is)))
    step false off rest = absurd (omega (arith, none, count_by-cons (λ (one : TargetRow). not (is_sound one)) row rows, ap (λ (b : Bool). cond {A = ℕ} (not b) 1 0) off))

few_sessions : (state : StateValue) → IsProper state → AreFewSessions state
few_sessions state proper = record {
  sessions = omega (arith, SlotsRise-within state.roster.limit 0 state.roster.sessions proper.roster.slots);
  most = proper.roster.limit_fits;
  users = all_so is_sound_user IsSmallUser small_user state.roster.sessions proper.users;
  listeners = proper.roster.few_listeners;
  listened = proper.roster.few_channels;
  targets = each_target state.roster.targets proper.roster.targets_sound;
}

-- ---- the laws

pub valid_states_are_within_lem : ValidStatesAreWithin
valid_states_are_within_lem state proper = record {
  welcome = short_text state.server.welcome proper.welcome;
  accounts = proper.few_accounts;
  channels = few_channels state proper;
  sessions = few_sessions state proper;
}

pub tree_commands_keep_within_lem : TreeCommandsKeepWithin
tree_commands_keep_within_lem state actor message edit proper is =
    let fit : fits state edit ≡ true = subst (FitsWhereAccepted state) is (accepted_fits state actor message proper) in
    valid_states_are_within_lem (applied state edit) (fit_proper state edit proper fit).1

pub user_commands_keep_within_lem : UserCommandsKeepWithin
user_commands_keep_within_lem state actor message edit proper is =
    let fit : fits state edit ≡ true = subst (FitsWhereAccepted state) is (user_accepted_fits state actor message proper) in
    valid_states_are_within_lem (applied state edit) (fit_proper state edit proper fit).1
