-- What a session or a channel holds, in place of what it held: tokens, voice targets and policies.
use Rattle.mum_state.proofs.Common.{◌≡◌, ℕ, ◌<◌, ◌↔◌, ◌==◌, ◌&&◌, ◌||◌, not, nat_lt, Bool, true, false, cond, eqb, List, [], ◌∷◌, length, map, refl, sym, ap, ◌∙◌, arith, Some, None, is_some, filter, list_all, list_any, and_from, and_parts, eqb-true, false≢true, not-true, nat_tests, none-some, ChannelId, SessionId, ChannelPolicy, Row, is_there, number, row_of, NoSession, TargetId, TargetSize, Target, TargetItem, TargetRow, LAST_TARGET, User, IsProperRoster, with_tokens, are_tokens, has_number, is_context, is_target, is_oversize, target_fault, targeted, with_target, targets_where_proper_lem, unset_stays_proper_lem, IsProper-changed, IsProper, is_short, is_sound_policy, is_sound_user, is_text, set_policy, with_policy, PolicyRow, StateValue}
use Rattle.mum_state.proofs.{Listed.all_changed, Listed.all_map, Listed.changed_passes, Listed.map_same, Listed.map_twice, Parted.with_channels, Parted.with_roster}

-- ---- tokens

abbrev tokened : List (List ℕ) → User → User
tokened tokens user = record user { tokens = tokens }

sound_tokened : (tokens : List (List ℕ)) → are_tokens tokens ≡ true → (user : User) → is_sound_user user ≡ true → is_sound_user (tokened tokens user) ≡ true
sound_tokened tokens are user sound =
    let (front, context) = and_parts (is_short user.name && are_tokens user.tokens && is_text user.comment) (is_context user.context) sound in
    let (first, comment) = and_parts (is_short user.name && are_tokens user.tokens) (is_text user.comment) front in
    let (short, was) = and_parts (is_short user.name) (are_tokens user.tokens) first in
    and_from (is_short user.name && are_tokens tokens && is_text user.comment) (is_context user.context)
    (and_from (is_short user.name && are_tokens tokens) (is_text user.comment) (and_from (is_short user.name) (are_tokens tokens) short are) comment)
    context

tokens_of : (tokens : List (List ℕ)) (user : User) → is_sound_user (tokened tokens user) ≡ true → are_tokens tokens ≡ true
tokens_of tokens user sound =
    let (front, context) = and_parts (is_short user.name && are_tokens tokens && is_text user.comment) (is_context user.context) sound in
    let (first, comment) = and_parts (is_short user.name && are_tokens tokens) (is_text user.comment) front in
    (and_parts (is_short user.name) (are_tokens tokens) first).1

-- tokens are within the limits exactly where the state stays proper with them
pub tokens_both_ways : (state : StateValue) (session : SessionId) (tokens : List (List ℕ)) → IsProper state → list_any (has_number session) state.roster.sessions ≡ true
    → (are_tokens tokens ≡ true) ↔ IsProper (record state { roster = with_tokens state.roster session tokens })
tokens_both_ways state session tokens proper here = (
  λ are.
      with_roster state (with_tokens state.roster session tokens) proper
      (IsProper-changed state.roster session (tokened tokens) (record { session = λ user. refl; slot = λ user. refl; name = λ user. refl; silence = λ user mute. mute }) proper.roster)
      (all_changed is_sound_user (has_number session) (tokened tokens) (sound_tokened tokens are) state.roster.sessions proper.users)
      (all_changed (λ user. is_there state.tree.channels user.channel) (has_number session) (tokened tokens) (λ user there. there) state.roster.sessions proper.inside)
      proper.listening,
  λ after.
      let (user, sound) = changed_passes is_sound_user (has_number session) (tokened tokens) state.roster.sessions here after.users in
      tokens_of tokens user sound,
)

-- ---- voice targets

targets_either : (state : StateValue) (b : Bool) (one other : List TargetRow) → IsProper state
    → IsProperRoster (cond b (record state.roster { targets = one }) (record state.roster { targets = other }))
    → IsProper (record state { roster = cond b (record state.roster { targets = one }) (record state.roster { targets = other }) })
targets_either state true one other proper good = with_roster state (record state.roster { targets = one }) proper good proper.users proper.inside proper.listening
targets_either state false one other proper good = with_roster state (record state.roster { targets = other }) proper good proper.users proper.inside proper.listening

-- where its targets are as they may be, so is the state
target_keeps : (state : StateValue) (session : SessionId) (id : ℕ) (target : Target) → IsProper state → IsProperRoster (targeted state.roster session id target) → IsProper (record state { roster = targeted state.roster session id target })
target_keeps state session id target proper good =
    targets_either state (eqb (length target.items) 0) (filter (λ row. not (is_target session id row)) state.roster.targets) (with_target (record { session = session; id = id; target = target }) state.roster.targets) proper good

-- a target without items is within the limits
empty_fits : (items : List TargetItem) → length items ≡ 0 → is_oversize (record { items = items }) ≡ false
empty_fits [] none = refl
empty_fits (item ∷ items) none = absurd (omega arith)

fault_of_size : (here number big : Bool) → here ≡ true → number ≡ false → cond (not here) (Some NoSession) (cond number (Some TargetId) (cond big (Some TargetSize) None)) ≡ cond big (Some TargetSize) None
fault_of_size here number big on off =
    ap (λ (b : Bool). cond (not b) (Some NoSession) (cond number (Some TargetId) (cond big (Some TargetSize) None))) on
    ∙ ap (λ (b : Bool). cond b (Some TargetId) (cond big (Some TargetSize) None)) off

not_big : (big : Bool) → cond big (Some TargetSize) None ≡ None → not big ≡ true
not_big true none = absurd (none-some TargetSize (sym none))
not_big false none = refl

some_items : (n : ℕ) → eqb n 0 ≡ false → 0 < n
some_items n off = grind (arith, nat_tests)

module _ (state : StateValue) (session : SessionId) (id : ℕ) (target : Target) (proper : IsProper state) (here : list_any (has_number session) state.roster.sessions ≡ true) (right : not ((id == 0) || nat_lt LAST_TARGET id) ≡ true) where
  fault_is : target_fault state.roster session id target ≡ cond (is_oversize target) (Some TargetSize) None
  fault_is = fault_of_size (list_any (has_number session) state.roster.sessions) ((id == 0) || nat_lt LAST_TARGET id) (is_oversize target) here (not-true ((id == 0) || nat_lt LAST_TARGET id) right)

  target_to : not (is_oversize target) ≡ true → IsProper (record state { roster = targeted state.roster session id target })
  target_to fine = target_keeps state session id target proper (step (eqb (length target.items) 0) refl)
    where
      step : (b : Bool) → eqb (length target.items) 0 ≡ b → IsProperRoster (targeted state.roster session id target)
      step true none = unset_stays_proper_lem state.roster session id target proper.roster (eqb-true (length target.items) 0 none)
      step false some =
          (targets_where_proper_lem state.roster session id target proper.roster here (some_items (length target.items) some)).0
          (fault_is ∙ ap (λ (b : Bool). cond b (Some TargetSize) None) (not-true (is_oversize target) fine))

  target_from : IsProper (record state { roster = targeted state.roster session id target }) → not (is_oversize target) ≡ true
  target_from after = step (eqb (length target.items) 0) refl
    where
      step : (b : Bool) → eqb (length target.items) 0 ≡ b → not (is_oversize target) ≡ true
      step true none = ap not (empty_fits target.items (eqb-true (length target.items) 0 none))
      step false some =
          not_big (is_oversize target)
          (sym fault_is ∙ (targets_where_proper_lem state.roster session id target proper.roster here (some_items (length target.items) some)).1 after.roster)

-- a target is within the limits exactly where the state stays proper with it
pub targets_both_ways : (state : StateValue) (session : SessionId) (id : ℕ) (target : Target) → IsProper state → list_any (has_number session) state.roster.sessions ≡ true
    → not ((id == 0) || nat_lt LAST_TARGET id) ≡ true
    → (not (is_oversize target) ≡ true) ↔ IsProper (record state { roster = targeted state.roster session id target })
targets_both_ways state session id target proper here right = (target_to state session id target proper here right, target_from state session id target proper here right)

-- ---- policies

same_governed : (channel : ChannelId) (policy : ChannelPolicy) (rows : List PolicyRow) → map (λ row. row.channel) (with_policy channel policy rows) ≡ map (λ row. row.channel) rows
same_governed channel policy rows =
    map_twice (λ (row : PolicyRow). row.channel) (set_policy channel policy) rows
    ∙ map_same (λ row. (set_policy channel policy row).channel) (λ row. row.channel) (λ row. step row (eqb row.channel.0 channel.0)) rows
  where
    step : (row : PolicyRow) (b : Bool) → (cond b (record row { policy = policy }) row).channel ≡ row.channel
    step row true = refl
    step row false = refl

sound_set : (channel : ChannelId) (policy : ChannelPolicy) → is_sound_policy policy ≡ true → (row : PolicyRow) → is_sound_policy row.policy ≡ true → is_sound_policy (set_policy channel policy row).policy ≡ true
sound_set channel policy good row sound = step (eqb row.channel.0 channel.0)
  where
    step : (b : Bool) → is_sound_policy (cond b (record row { policy = policy }) row).policy ≡ true
    step true = good
    step false = sound

-- one of these is the channel's
governs : (rows : List PolicyRow) (channel : ChannelId) (policy : ChannelPolicy) → list_any (λ row. eqb row.channel.0 channel.0) rows ≡ true → list_all (λ row. is_sound_policy row.policy) (with_policy channel policy rows) ≡ true → is_sound_policy policy ≡ true
governs [] channel policy some all = absurd (false≢true some)
governs (row ∷ rows) channel policy some all =
    let parts = and_parts (is_sound_policy (set_policy channel policy row).policy) (list_all (λ one. is_sound_policy one.policy) (with_policy channel policy rows)) all in
    step (eqb row.channel.0 channel.0) refl some parts.0 (λ later. governs rows channel policy later parts.1)
  where
    step : (b : Bool) → eqb row.channel.0 channel.0 ≡ b → (b || list_any (λ one. eqb one.channel.0 channel.0) rows) ≡ true
        → is_sound_policy (set_policy channel policy row).policy ≡ true
        → (list_any (λ one. eqb one.channel.0 channel.0) rows ≡ true → is_sound_policy policy ≡ true)
        → is_sound_policy policy ≡ true
    step true is some-2 first rest = ap (λ (b : Bool). is_sound_policy (cond b (record row { policy = policy }) row).policy) (sym is) ∙ first
    step false is some-2 first rest = rest some-2

found_any : (rows : List Row) (channel : ChannelId) → is_there rows channel ≡ true → list_any (λ id. eqb id.0 channel.0) (map (λ row. row.channel.id) rows) ≡ true
found_any [] channel there = absurd (false≢true there)
found_any (row ∷ rows) channel there = step (eqb (number row) channel.0) refl (found_any rows channel)
  where
    step : (b : Bool) → eqb (number row) channel.0 ≡ b → (is_there rows channel ≡ true → list_any (λ id. eqb id.0 channel.0) (map (λ one. one.channel.id) rows) ≡ true)
        → list_any (λ id. eqb id.0 channel.0) (map (λ one. one.channel.id) (row ∷ rows)) ≡ true
    step true is rest = ap (λ (b : Bool). b || list_any (λ (id : ChannelId). eqb id.0 channel.0) (map (λ (one : Row). one.channel.id) rows)) is
    step false is rest =
        ap (λ (b : Bool). b || list_any (λ (id : ChannelId). eqb id.0 channel.0) (map (λ (one : Row). one.channel.id) rows)) is
        ∙ rest (sym (ap (λ (b : Bool). is_some (cond b (Some row) (row_of rows channel))) is) ∙ there)

any_of : (rows : List PolicyRow) (channel : ChannelId) → list_any (λ id. eqb id.0 channel.0) (map (λ row. row.channel) rows) ≡ list_any (λ row. eqb row.channel.0 channel.0) rows
any_of [] channel = refl
any_of (row ∷ rows) channel = ap (λ (b : Bool). eqb row.channel.0 channel.0 || b) (any_of rows channel)

-- a policy is sound exactly where the state stays proper with it
pub policies_both_ways : (state : StateValue) (channel : ChannelId) (policy : ChannelPolicy) → IsProper state → is_there state.tree.channels channel ≡ true
    → (is_sound_policy policy ≡ true) ↔ IsProper (record state { policies = with_policy channel policy state.policies })
policies_both_ways state channel policy proper there = (
  λ good.
      with_channels state state.tree (with_policy channel policy state.policies) proper proper.tree proper.channels
      (same_governed channel policy state.policies ∙ proper.policies)
      (all_map (λ row. is_sound_policy row.policy) (λ row. is_sound_policy row.policy) (set_policy channel policy) (sound_set channel policy good) state.policies proper.sound_policies)
      proper.inside proper.listening,
  λ after.
      governs state.policies channel policy
      (sym (any_of state.policies channel) ∙ ap (list_any (λ (id : ChannelId). eqb id.0 channel.0)) proper.policies ∙ found_any state.tree.channels channel there)
      after.sound_policies,
)
