-- What is full takes nothing more.
use Rattle.mum_limits_laws.proofs.Common.{◌≡◌, ◌≢◌, ◌⊎◌, ◌≤◌, ◌<◌, ◌+◌, ◌==◌, ◌&&◌, ◌||◌, ℕ, not, Bool, true, false, cond, List, [], ◌∷◌, map, length, Option, Some, None, inl, inr, refl, sym, ap, ◌∙◌, subst, arith, nat_le, nat_lt, sum_by, unwrap_or, count_by, filter, list_any, option_map, option_map_or, eq-eqb, false≢true, ne_eqb, or_parts, nat_tests, length-map, ChannelId, SessionId, ROOT, AclEntry, ChannelPolicy, is_large_group, is_long_whom, pairs_with_all, pairs_without_all, is_full, path, Pair, is_pair, starts_at, with_pair, Row, count_with, ListenerPair, TargetItem, is_crowded, session_of, is_in, is_of_channel, is_of_session, count-put_new, User, fits, IsProper, set_by, Edit, Accepted, fit_proper, Command, channel_or_root, given_unless, command_of, others, FitsWhereAccepted, first_lack, first_standing, needs_of, limits, edit_to_change, outcome, entry_asked, group_asked, is_inherited, policy_asked, reasons, Acl, State, accepted_fits, AllOff, all_off, outcome_at, accepts_where_nothing_stands_lem, channel_of, channels, item_asked, new_channel, session_or, target_asked, user_limits, user_pairs_with, room_of, takes_nobody, user_command_of, Target, Changes, clear, ChannelsTooManyAreRefused, FullChannelsAreNotEntered, ListenersTooManyAreRefused, PoliciesTooLargeAreRefused, SixtyFifthLinksAreRefused, TargetsTooLargeAreRefused}
use Rattle.mum_tree.specs.State.{pairs_with}
use Rattle.mum_limits_laws.specs.Denials.{channel}
use Rattle.mum_limits_laws.proofs.Cases.{each_off}

-- ---- a channel that is full

session_is : (number : Option ℕ) (actor : SessionId) → session_or actor number ≡ record { 0 = unwrap_or number actor.0 }
session_is None actor = refl
session_is (Some n) actor = refl

has_room : (most here : ℕ) → (not (most == 0) && nat_le most here) ≡ false → (most ≡ 0) ⊎ (here < most)
has_room most here off = step (most == 0) refl off
  where
    zero : (most : ℕ) → (most == 0) ≡ true → most ≡ 0
    zero most is = grind (arith, nat_tests)

    fewer : (most here : ℕ) → nat_le most here ≡ false → here < most
    fewer most here is = grind (arith, nat_tests)

    step : (b : Bool) → (most == 0) ≡ b → (not b && nat_le most here) ≡ false → (most ≡ 0) ⊎ (here < most)
    step true is rest = inl (zero most is)
    step false is rest = inr (fewer most here rest)

pub full_channels_lem : FullChannelsAreNotEntered
full_channels_lem state actor asked edit user n row is found asks apart there =
    let session : SessionId = session_or actor asked.session in
    let here : session_of state.roster session ≡ Some user = ap (session_of state.roster) (session_is asked.session actor) ∙ found in
    let off : AllOff (user_limits state actor (user_command_of actor (Changes asked))) = all_off (user_limits state actor (user_command_of actor (Changes asked))) (clear state actor (Changes asked) edit is).limits in
    let enters : new_channel state.roster session asked ≡ Some (channel n) =
    ap (λ (o : Option ℕ). given_unless (λ (one : ChannelId). one.0 == (channel_of state.roster session).0) (option_map channel o)) asks
    ∙ ap (λ (o : Option User). cond (n == (option_map_or (λ (one : User). one.channel) o ROOT).0) None (Some (channel n))) here
    ∙ ap (λ (b : Bool). cond b None (Some (channel n))) (ne_eqb n user.channel.0 apart) in
    let free : takes_nobody state (channel n) ≡ false = sym (ap (λ (o : Option ChannelId). option_map_or (takes_nobody state) o false) enters) ∙ off.1.0 in
    let room : room_of state (channel n) ≡ row.channel.info.max_users = ap (λ (o : Option Row). option_map_or (λ (one : Row). one.channel.info.max_users) o 0) there in
    has_room row.channel.info.max_users (count_by (is_in (channel n)) state.roster.sessions)
    (sym (ap (λ (most : ℕ). not (most == 0) && nat_le most (count_by (is_in (channel n)) state.roster.sessions)) room) ∙ free)

-- ---- a link too many

same_edit : (one other : Edit) → Accepted one ≡ Accepted other → one ≡ other
same_edit one other is = cc

one_other : (id other : ChannelId) → other.0 ≢ id.0 → others id (other.0 ∷ []) ≡ other ∷ []
one_other id other apart = ap (λ (b : Bool). map channel (cond (not b) (other.0 ∷ []) [])) (ne_eqb other.0 id.0 apart)

joined : (id other : ChannelId) (links : List Pair) → other.0 ≢ id.0 → list_any (is_pair id other) links ≡ false → pairs_with id other links ≡ with_pair other id (with_pair id other links)
joined id other links apart none =
    ap (λ (b : Bool). cond (b || list_any (is_pair id other) links) links (with_pair other id (with_pair id other links))) (ne_eqb id.0 other.0 (λ same. apart (sym same)))
    ∙ ap (λ (b : Bool). cond b links (with_pair other id (with_pair id other links))) none

too_many : (id other one : ChannelId) (links : List Pair) → other.0 ≢ id.0 → list_any (is_pair id other) links ≡ false → (one.0 ≡ id.0) ⊎ (one.0 ≡ other.0) → 64 ≤ count_by (starts_at one) links
    → count_by (starts_at one) (pairs_with id other links) ≤ 64 → ⊥
too_many id other one links apart none which full few =
    let counted : count_by (starts_at one) (pairs_with id other links) ≡ cond (other.0 == one.0) 1 0 + (cond (id.0 == one.0) 1 0 + count_by (starts_at one) links) =
    ap (λ (list : List Pair). count_by (starts_at one) list) (joined id other links apart none)
    ∙ count_with (starts_at one) other id (with_pair id other links)
    ∙ ap (λ (n : ℕ). cond (other.0 == one.0) 1 0 + n) (count_with (starts_at one) id other links) in
    elim which as (λ _. ⊥) [
      | inl same ↦ (let one_more : cond {A = ℕ} (id.0 == one.0) 1 0 ≡ 1 = ap (λ (b : Bool). cond {A = ℕ} b 1 0) (eq-eqb id.0 one.0 (sym same)) in absurd (omega (arith, counted, one_more, full, few)))
      | inr same ↦ (let one_more : cond {A = ℕ} (other.0 == one.0) 1 0 ≡ 1 = ap (λ (b : Bool). cond {A = ℕ} b 1 0) (eq-eqb other.0 one.0 (sym same)) in absurd (omega (arith, counted, one_more, full, few)))
    ]

pub sixty_fifth_links_lem : SixtyFifthLinksAreRefused
sixty_fifth_links_lem state actor asked edit id other proper names adds removes apart unlinked full is =
    let fit : fits state edit ≡ true = subst (FitsWhereAccepted state) is (accepted_fits state actor (State asked) proper) in
    let rest = (outcome_at (first_standing (reasons state actor (State asked))) (first_lack state (needs_of state actor (State asked))) (first_standing (limits state (command_of (State asked))))
    (outcome state actor (command_of (State asked))) edit is).1 in
    let edit_is : edit_to_change state.tree actor id asked ≡ edit =
    same_edit (edit_to_change state.tree actor id asked) edit
    (sym (ap (λ (o : Option ℕ). outcome state actor (option_map_or (λ n. Command.edit (channel n) asked) o (Command.make asked))) names) ∙ rest) in
    let after : IsProper (set_by state (edit_to_change state.tree actor id asked)) = subst (λ (e : Edit). IsProper (set_by state e)) (sym edit_is) (fit_proper state edit proper fit).0 in
    let links : (set_by state (edit_to_change state.tree actor id asked)).tree.links ≡ pairs_with id other state.tree.links =
    ap (λ (numbers : List ℕ). pairs_without_all id (others id numbers) (pairs_with_all id (others id asked.links_add) state.tree.links)) removes
    ∙ ap (λ (numbers : List ℕ). pairs_with_all id (others id numbers) state.tree.links) adds
    ∙ ap (λ (ids : List ChannelId). pairs_with_all id ids state.tree.links) (one_other id other apart) in
    let few : (one : ChannelId) → count_by (starts_at one) (pairs_with id other state.tree.links) ≤ 64 =
    λ one. subst (λ (list : List Pair). count_by (starts_at one) list ≤ 64) links (after.tree.joined.few_each one) in
    elim full as (λ _. ⊥) [
      | inl many ↦ too_many id other id state.tree.links apart unlinked (inl refl) many (few id)
      | inr many ↦ too_many id other other state.tree.links apart unlinked (inr refl) many (few other)
    ]

-- ---- a channel too many

below : (a b : ℕ) → a ≤ b → nat_le a b ≡ true
below a b is = grind (arith, nat_tests)

pub channels_too_many_lem : ChannelsTooManyAreRefused
channels_too_many_lem state actor asked edit parent none under full is =
    let lies = accepts_where_nothing_stands_lem state actor (State asked) edit is in
    let off : AllOff (limits state (Command.make asked)) =
    subst (λ (o : Option ℕ). AllOff (limits state (option_map_or (λ n. Command.edit (channel n) asked) o (Command.make asked)))) none (each_off (limits state (command_of (State asked))) lies.2) in
    let deep : nat_le 33 (length (path state.tree.channels (channel parent))) ≡ false =
    sym (ap (λ (o : Option ℕ). nat_le 33 (length (path state.tree.channels (channel_or_root o)))) under) ∙ off.1.1.0 in
    elim full as (λ _. ⊥) [
      | inl many ↦ false≢true (sym (or_parts (is_full state.tree) _ off.1.1.1.0).0 ∙ below state.tree.limit (length state.tree.channels) many)
      | inr long ↦ false≢true (sym deep ∙ below 33 (length (path state.tree.channels (channel parent))) long)
    ]

-- ---- lists, targets and listeners

clash : (b : Bool) → b ≡ false → b ≡ true → ⊥
clash b off on = false≢true (sym off ∙ on)

above : (limit n : ℕ) → limit < n → nat_lt limit n ≡ true
above limit n is = grind (arith, nat_tests)

pub policies_too_large_lem : PoliciesTooLargeAreRefused
policies_too_large_lem state actor asked edit no_query large is =
    let lies = accepts_where_nothing_stands_lem state actor (Acl asked) edit is in
    let id : ChannelId = channel_or_root asked.channel_id in
    let off : AllOff (limits state (Command.set id asked)) =
    subst (λ (query : Bool). AllOff (limits state (cond query (Command.query id) (Command.set id asked)))) no_query (each_off (limits state (command_of (Acl asked))) lies.2) in
    let policy : ChannelPolicy = policy_asked asked in
    let three = or_parts (nat_lt 64 (length policy.groups) || nat_lt 128 (length policy.acls) || list_any is_large_group policy.groups) (list_any (λ (entry : AclEntry). is_long_whom entry.whom) policy.acls) off.0 in
    let two = or_parts (nat_lt 64 (length policy.groups) || nat_lt 128 (length policy.acls)) (list_any is_large_group policy.groups) three.0 in
    let one = or_parts (nat_lt 64 (length policy.groups)) (nat_lt 128 (length policy.acls)) two.0 in
    elim large as (λ _. ⊥) [
      | inl many ↦ clash (nat_lt 128 (length (filter (λ line. not (is_inherited line.inherited)) asked.acls)))
          (sym (ap (nat_lt 128) (length-map (filter (λ line. not (is_inherited line.inherited)) asked.acls) entry_asked)) ∙ one.1)
          (above 128 (length (filter (λ line. not (is_inherited line.inherited)) asked.acls)) many)
      | inr many ↦ clash (nat_lt 64 (length (filter (λ group. not (is_inherited group.inherited)) asked.groups)))
          (sym (ap (nat_lt 64) (length-map (filter (λ group. not (is_inherited group.inherited)) asked.groups) group_asked)) ∙ one.0)
          (above 64 (length (filter (λ group. not (is_inherited group.inherited)) asked.groups)) many)
    ]

pub targets_too_large_lem : TargetsTooLargeAreRefused
targets_too_large_lem state actor asked edit large is =
    let off : AllOff (user_limits state actor (user_command_of actor (Target asked))) = all_off (user_limits state actor (user_command_of actor (Target asked))) (clear state actor (Target asked) edit is).limits in
    let two = or_parts (nat_lt 16 (length (target_asked asked).items) || nat_lt 128 (sum_by (λ item. length item.sessions) (target_asked asked).items))
    (list_any (λ (item : TargetItem). nat_lt 128 (length item.group)) (target_asked asked).items) off.1.0 in
    let one = or_parts (nat_lt 16 (length (target_asked asked).items)) (nat_lt 128 (sum_by (λ item. length item.sessions) (target_asked asked).items)) two.0 in
    clash (nat_lt 16 (length asked.targets)) (sym (ap (nat_lt 16) (length-map asked.targets item_asked)) ∙ one.0) (above 16 (length asked.targets) large)

pub listeners_too_many_lem : ListenersTooManyAreRefused
listeners_too_many_lem state actor asked edit n proper own adds apart full is =
    let off : AllOff (user_limits state actor (user_command_of actor (Changes asked))) = all_off (user_limits state actor (user_command_of actor (Changes asked))) (clear state actor (Changes asked) edit is).limits in
    let new : ListenerPair = record { session = actor; channel = channel n } in
    let listeners : List ListenerPair = state.roster.listeners in
    let pairs : List ListenerPair = user_pairs_with state.roster actor (channels (n ∷ [])) in
    let self : session_or actor asked.session ≡ actor = ap (λ (o : Option ℕ). session_or actor o) own in
    let crowded : list_any (is_crowded pairs) (channels (n ∷ [])) ≡ false =
    sym (ap (λ (session : SessionId). list_any (is_crowded (user_pairs_with state.roster session (channels asked.listening_channel_add))) (channels asked.listening_channel_add)) self
    ∙ ap (λ (numbers : List ℕ). list_any (is_crowded (user_pairs_with state.roster actor (channels numbers))) (channels numbers)) adds) ∙ off.1.1.0 in
    let many : nat_lt 32 (count_by (is_of_session actor) pairs) ≡ false =
    sym (ap (λ (session : SessionId). nat_lt 32 (count_by (is_of_session session) (user_pairs_with state.roster session (channels asked.listening_channel_add)))) self
    ∙ ap (λ (numbers : List ℕ). nat_lt 32 (count_by (is_of_session actor) (user_pairs_with state.roster actor (channels numbers)))) adds) ∙ off.1.1.1.0 in
    let by_channel : count_by (is_of_channel (channel n)) pairs ≡ count_by (is_of_channel (channel n)) listeners + cond (n == n) 1 0 =
    count-put_new (is_of_channel (channel n)) new listeners proper.roster.listeners_rise apart in
    let by_session : count_by (is_of_session actor) pairs ≡ count_by (is_of_session actor) listeners + cond (actor.0 == actor.0) 1 0 =
    count-put_new (is_of_session actor) new listeners proper.roster.listeners_rise apart in
    let one : cond {A = ℕ} (n == n) 1 0 ≡ 1 = ap (λ (b : Bool). cond {A = ℕ} b 1 0) (eq-eqb n n refl) in
    let other : cond {A = ℕ} (actor.0 == actor.0) 1 0 ≡ 1 = ap (λ (b : Bool). cond {A = ℕ} b 1 0) (eq-eqb actor.0 actor.0 refl) in
    elim full as (λ _. ⊥) [
      | inl heard ↦ clash (nat_lt 64 (count_by (is_of_channel (channel n)) pairs)) (or_parts (is_crowded pairs (channel n)) false crowded).0
          (above 64 (count_by (is_of_channel (channel n)) pairs) (omega (arith, heard, by_channel, one)))
      | inr hears ↦ clash (nat_lt 32 (count_by (is_of_session actor) pairs)) many (above 32 (count_by (is_of_session actor) pairs) (omega (arith, hears, by_session, other)))
    ]
