-- A message on users is refused for the first limit that applies.
use Rattle.mum_limits_laws.proofs.Common.{◌≡◌, ◌≢◌, ℕ, ◌≤◌, ◌<◌, ◌==◌, ◌&&◌, ◌||◌, not, Bool, true, false, cond, List, [], ◌∷◌, map, length, Option, Some, None, refl, sym, ap, subst, ◌∙◌, arith, nat_le, nat_lt, sum_by, unwrap_or, Contains, count_by, list_any, option_map, option_map_or, false≢true, nat_tests, length-map, sum_by-cons, none-some, same_Some, deny_code, AccountId, ChannelId, SessionId, SUPER_USER, ROOT, DenyType, ChannelFull, ChannelListenerLimit, SuperUser, Other, TextTooLong, UserListenerLimit, TargetBlock, VoiceTarget, UserState, is_account, Row, row_of, ListenerPair, TargetItem, User, is_crowded, session_of, is_context, is_in, is_of_session, is_oversize, holds_of_given, is_text, StateValue, channel, given_unless, text_or_empty, first_lack, first_standing, channel_of, channels, item_asked, number_of_target, rules_speech, session_or, target_asked, has_long_text, is_protected, is_super_user, pairs_with, takes_nobody, actor_for, user_verdict, UserMessage, Kick, Target, Text, Changes, Tells, TellsEach, tells_and, tells_any, tells_eq, tells_le, tells_lt, tells_not, tells_or, tells_so, IsRefusedFor, AgainstAiming, AgainstKicking, AgainstWriting, EntersFull, IsProtected, KicksAreRefusedForTheFirst, TargetsAreRefusedForTheFirst, TextsAreRefusedForTheFirst, UserChangesAreRefusedForTheFirst, UserLimit, listening_then}
use Rattle.mum_rules_user.specs.{Asked.Command, Asked.command_of, Limits.limits, Needs.needs, Outcome.outcome, Reasons.reasons}
use Rattle.mum_limits_laws.specs.UserLimits.{AgainstChanging, number}
use Rattle.mum_limits_laws.proofs.{Limited.any_map, Limited.limited_lem, Limited.long, Limited.rows, NeedUserLaws.ends, NeedUserLaws.ruling}

-- ---- limits and their denials

abbrev type_of : UserLimit → DenyType
type_of UserLimit.super_user = SuperUser
type_of UserLimit.full_channel = ChannelFull
type_of UserLimit.many_listeners = ChannelListenerLimit
type_of UserLimit.many_listened = UserListenerLimit
type_of UserLimit.long_text = TextTooLong
type_of UserLimit.target_number = Other
type_of UserLimit.large_target = Other

same_number : (limit : UserLimit) → deny_code (type_of limit) ≡ number limit
same_number UserLimit.super_user = refl
same_number UserLimit.full_channel = refl
same_number UserLimit.many_listeners = refl
same_number UserLimit.many_listened = refl
same_number UserLimit.long_text = refl
same_number UserLimit.target_number = refl
same_number UserLimit.large_target = refl

verdict_refused : (state : StateValue) (actor : SessionId) (message : UserMessage) (Applies : UserLimit → Type 0) (tests : List (UserLimit × Bool)) → limits state actor (command_of actor message) ≡ rows type_of tests
    → TellsEach Applies tests → IsRefusedFor number Applies (map (λ test. test.0) tests) (user_verdict state (Some actor) message)
verdict_refused state actor message Applies tests are tells =
    limited_lem type_of number same_number Applies tests (limits state actor (command_of actor message)) are (first_standing (reasons state (Some actor) message)) (λ _. tells)
    (first_lack state (needs state (actor_for state actor message) actor (command_of actor message)))
    (outcome state (actor_for state actor message) actor (command_of actor message)) (ends state (actor_for state actor message) actor (command_of actor message))

-- ---- SuperUser

super_user : (o : Option AccountId) → Tells (is_account o SUPER_USER) ((account : AccountId) × (o ≡ Some account) × (account.0 ≡ 0))
super_user None = record { so = λ is. absurd (false≢true is); not_so = λ _ some. none-some some.0 some.1 }
super_user (Some own) =
    tells_so (own.0 == 0) (λ (zero : own.0 ≡ 0). (own, refl, zero))
    (λ (some : (account : AccountId) × (Some own ≡ Some account) × (account.0 ≡ 0)). ap (λ (one : AccountId). one.0) (same_Some own some.0 some.1) ∙ some.2) (tells_eq own.0 0)

-- a session that is here, and its number
protected : (state : StateValue) (actor session : SessionId) (it : User) → session_of state.roster session ≡ Some it → session.0 ≡ it.session.0 → Tells (is_protected state.roster actor session) (IsProtected actor it)
protected state actor session it found numbered =
    let super : is_super_user state.roster session ≡ is_account it.account SUPER_USER = ap (λ (o : Option User). option_map_or (λ (user : User). is_account user.account SUPER_USER) o false) found in
    let other : Tells (not (actor.0 == session.0)) (actor.0 ≢ it.session.0) = subst (λ (n : ℕ). Tells (not (actor.0 == session.0)) (actor.0 ≢ n)) numbered (tells_not (actor.0 == session.0) (tells_eq actor.0 session.0)) in
    tells_and (not (actor.0 == session.0)) (is_super_user state.roster session) other
    (subst (λ (b : Bool). Tells b ((account : AccountId) × (it.account ≡ Some account) × (account.0 ≡ 0))) (sym super) (super_user it.account))

-- ---- a UserState

full : (state : StateValue) (n : ℕ) (o : Option Row)
    → Tells (not (option_map_or (λ (row : Row). row.channel.info.max_users) o 0 == 0) && nat_le (option_map_or (λ (row : Row). row.channel.info.max_users) o 0) (count_by (is_in (channel n)) state.roster.sessions))
    ((row : Row) × (o ≡ Some row) × (row.channel.info.max_users ≢ 0) × (row.channel.info.max_users ≤ count_by (λ one. one.channel.0 == n) state.roster.sessions))
full state n None = record { so = λ is. absurd (false≢true is); not_so = λ _ some. none-some some.0 some.1 }
full state n (Some row) =
    let most : ℕ = row.channel.info.max_users in
    let here : ℕ = count_by (λ one. one.channel.0 == n) state.roster.sessions in
    tells_so (not (most == 0) && nat_le most here) (λ (both : (most ≢ 0) × (most ≤ here)). (row, refl, both.0, both.1))
    (λ (some : (one : Row) × (Some row ≡ Some one) × (one.channel.info.max_users ≢ 0) × (one.channel.info.max_users ≤ here)).
    subst (λ (one : Row). (one.channel.info.max_users ≢ 0) × (one.channel.info.max_users ≤ here)) (sym (same_Some row some.0 some.1)) (some.2, some.3))
    (tells_and (not (most == 0)) (nat_le most here) (tells_not (most == 0) (tells_eq most 0)) (tells_le most here))

abbrev IsFull : StateValue → User → Option ℕ → Type 0
IsFull state it o =
    (n : ℕ) × (o ≡ Some n) × (n ≢ it.channel.0)
    × ((row : Row) × (row_of state.tree.channels (channel n) ≡ Some row) × (row.channel.info.max_users ≢ 0)
    × (row.channel.info.max_users ≤ count_by (λ one. one.channel.0 == n) state.roster.sessions))

enters_full : (state : StateValue) (asked : UserState) (it : User)
    → Tells (option_map_or (takes_nobody state) (given_unless (λ (there : ChannelId). there.0 == it.channel.0) (option_map channel asked.channel_id)) false) (EntersFull state asked it)
enters_full state asked it = step asked.channel_id
  where
    step : (o : Option ℕ) → Tells (option_map_or (takes_nobody state) (given_unless (λ (there : ChannelId). there.0 == it.channel.0) (option_map channel o)) false) (IsFull state it o)
    step None = record { so = λ is. absurd (false≢true is); not_so = λ _ some. none-some some.0 some.1 }
    step (Some n) = at (n == it.channel.0) (tells_eq n it.channel.0)
      where
        at : (b : Bool) → Tells b (n ≡ it.channel.0) → Tells (option_map_or (takes_nobody state) (cond b None (Some (channel n))) false) (IsFull state it (Some n))
        at true same = record { so = λ is. absurd (false≢true is); not_so = λ _ some. some.2 (sym (same_Some n some.0 some.1) ∙ same.so refl) }
        at false same =
            let there = full state n (row_of state.tree.channels (channel n)) in record {
              so = λ is. (n, refl, (λ is_here. same.not_so refl is_here), there.so is);
              not_so = λ off some. there.not_so off (subst (λ (m : ℕ). (row : Row) × (row_of state.tree.channels (channel m) ≡ Some row) × (row.channel.info.max_users ≢ 0)
                  × (row.channel.info.max_users ≤ count_by (λ one. one.channel.0 == m) state.roster.sessions)) (sym (same_Some n some.0 some.1)) some.3);
            }

context_long : (bytes : List ℕ) → Tells (not (is_context bytes)) (1024 < length bytes)
context_long bytes = step (nat_le (length bytes) 1024) (tells_le (length bytes) 1024)
  where
    above : (n : ℕ) → (n ≤ 1024 → ⊥) → 1024 < n
    above n never = found (nat_lt 1024 n) (tells_lt 1024 n) refl
      where
        within : (n : ℕ) → nat_lt 1024 n ≡ false → n ≤ 1024
        within n is = grind (arith, nat_tests)

        found : (b : Bool) → Tells b (1024 < n) → nat_lt 1024 n ≡ b → 1024 < n
        found true tells is = tells.so refl
        found false tells is = absurd (never (within n is))

    below : (n : ℕ) → 1024 < n → n ≤ 1024 → ⊥
    below n more less = omega (arith, more, less)

    step : (b : Bool) → Tells b (length bytes ≤ 1024) → Tells (not b) (1024 < length bytes)
    step true tells = record { so = λ is. absurd (false≢true is); not_so = λ _ more. below (length bytes) more (tells.so refl) }
    step false tells = record { so = λ _. above (length bytes) (tells.not_so refl); not_so = λ off _. false≢true (sym off) }

given : (most : ℕ) (test : List ℕ → Bool) → ((text : List ℕ) → Tells (not (test text)) (most < length text)) → (o : Option (List ℕ)) → Tells (not (holds_of_given test o)) (most < length (unwrap_or o []))
given most test tells None = record { so = λ is. absurd (false≢true is); not_so = λ _ less. absurd (omega (arith, less)) }
given most test tells (Some text) = tells text

crowded : (state : StateValue) (asked : UserState) (it : User) (numbers : List ℕ)
    → Tells (list_any (is_crowded (listening_then state asked it)) (channels numbers)) ((n : ℕ) × Contains numbers n × (64 < count_by (λ pair. pair.channel.0 == n) (listening_then state asked it)))
crowded state asked it numbers =
    let pairs : List ListenerPair = listening_then state asked it in
    subst (λ (b : Bool). Tells b ((n : ℕ) × Contains numbers n × (64 < count_by (λ pair. pair.channel.0 == n) pairs))) (sym (any_map (is_crowded pairs) channel numbers))
    (tells_any (λ n. is_crowded pairs (channel n)) (λ (n : ℕ). 64 < count_by (λ pair. pair.channel.0 == n) pairs) (λ n. tells_lt 64 (count_by (λ pair. pair.channel.0 == n) pairs)) numbers)

abbrev changing_tests : StateValue → SessionId → SessionId → UserState → User → List (UserLimit × Bool)
changing_tests state actor session asked it =
    let pairs : List ListenerPair = listening_then state asked it in
    (UserLimit.super_user, rules_speech asked && is_protected state.roster actor session)
    ∷ (UserLimit.full_channel, option_map_or (takes_nobody state) (given_unless (λ (there : ChannelId). there.0 == it.channel.0) (option_map channel asked.channel_id)) false)
    ∷ (UserLimit.many_listeners, list_any (is_crowded pairs) (channels asked.listening_channel_add))
    ∷ (UserLimit.many_listened, nat_lt 32 (count_by (is_of_session it.session) pairs))
    ∷ (UserLimit.long_text, has_long_text asked)
    ∷ []

pub user_changes_lem : UserChangesAreRefusedForTheFirst
user_changes_lem state actor asked it found numbered =
    let session : SessionId = session_or actor asked.session in
    let session_is : session ≡ record { 0 = unwrap_or asked.session actor.0 } = named asked.session actor in
    let here : session_of state.roster session ≡ Some it = ap (session_of state.roster) session_is ∙ found in
    let own : session ≡ it.session = session_is ∙ ap (λ (n : ℕ). record { 0 = n }) (sym numbered) in
    let at : channel_of state.roster session ≡ it.channel = ap (λ (o : Option User). option_map_or (λ (one : User). one.channel) o ROOT) here in
    let pairs : List ListenerPair = listening_then state asked it in
    verdict_refused state actor (Changes asked) (AgainstChanging state actor asked it) (changing_tests state actor session asked it)
    (ap (λ (id : ChannelId). rows type_of (
    (UserLimit.super_user, rules_speech asked && is_protected state.roster actor session)
    ∷ (UserLimit.full_channel, option_map_or (takes_nobody state) (given_unless (λ (there : ChannelId). there.0 == id.0) (option_map channel asked.channel_id)) false)
    ∷ (UserLimit.many_listeners, list_any (is_crowded (pairs_with state.roster session (channels asked.listening_channel_add))) (channels asked.listening_channel_add))
    ∷ (UserLimit.many_listened, nat_lt 32 (count_by (is_of_session session) (pairs_with state.roster session (channels asked.listening_channel_add))))
    ∷ (UserLimit.long_text, has_long_text asked)
    ∷ [])) at
    ∙ ap (λ (one : SessionId). rows type_of (
    (UserLimit.super_user, rules_speech asked && is_protected state.roster actor session)
    ∷ (UserLimit.full_channel, option_map_or (takes_nobody state) (given_unless (λ (there : ChannelId). there.0 == it.channel.0) (option_map channel asked.channel_id)) false)
    ∷ (UserLimit.many_listeners, list_any (is_crowded (pairs_with state.roster one (channels asked.listening_channel_add))) (channels asked.listening_channel_add))
    ∷ (UserLimit.many_listened, nat_lt 32 (count_by (is_of_session one) (pairs_with state.roster one (channels asked.listening_channel_add))))
    ∷ (UserLimit.long_text, has_long_text asked)
    ∷ [])) own) (
      tells_and (rules_speech asked) (is_protected state.roster actor session) (ruling asked) (protected state actor session it here (ap (λ (one : SessionId). one.0) own)),
      (λ _. (
        enters_full state asked it,
        (λ _. (
          crowded state asked it asked.listening_channel_add,
          (λ _. (
            tells_lt 32 (count_by (is_of_session it.session) pairs),
            (λ _. (
              tells_or (not (holds_of_given is_text asked.comment)) (not (holds_of_given is_context asked.plugin_context)) (given 20000 is_text long asked.comment) (given 1024 is_context context_long asked.plugin_context),
              (λ _. tt),
            )),
          )),
        )),
      )),
    )
  where
    named : (number : Option ℕ) (actor : SessionId) → session_or actor number ≡ record { 0 = unwrap_or number actor.0 }
    named None actor = refl
    named (Some n) actor = refl

-- ---- a removal of a session, and a text

pub kicks_lem : KicksAreRefusedForTheFirst
kicks_lem state actor asked it named found =
    let session_is : session_or actor asked.session ≡ it.session = ap (λ (o : Option ℕ). session_or actor o) named in
    verdict_refused state actor (Kick asked) (AgainstKicking actor it) ((UserLimit.super_user, is_protected state.roster actor it.session) ∷ [])
    (ap (λ (session : SessionId). limits state actor (Command.kick session asked)) session_is)
    (protected state actor it.session it found refl, (λ _. tt))

pub texts_lem : TextsAreRefusedForTheFirst
texts_lem state actor asked =
    verdict_refused state actor (Text asked) (AgainstWriting asked) ((UserLimit.long_text, not (is_text (text_or_empty asked.message))) ∷ []) refl (long (text_or_empty asked.message), (λ _. tt))

-- ---- a voice target

sessions_in : (blocks : List TargetBlock) → sum_by (λ (item : TargetItem). length item.sessions) (map item_asked blocks) ≡ sum_by (λ (block : TargetBlock). length block.session) blocks
sessions_in [] = refl
sessions_in (block ∷ blocks) =
    added (λ (item : TargetItem). length item.sessions) (λ (block : TargetBlock). length block.session) (item_asked block) (map item_asked blocks) block blocks (length-map block.session _) (sessions_in blocks)
  where
    added : {X Y : Type 0} (f : X → ℕ) (g : Y → ℕ) (x : X) (xs : List X) (y : Y) (ys : List Y) → f x ≡ g y → sum_by f xs ≡ sum_by g ys → sum_by f (x ∷ xs) ≡ sum_by g (y ∷ ys)
    added f g x xs y ys one rest = omega (arith, one, rest, sum_by-cons f x xs, sum_by-cons g y ys)

large : (asked : VoiceTarget) → Tells (is_oversize (target_asked asked)) (AgainstAiming asked UserLimit.large_target)
large asked =
    let items : List TargetItem = map item_asked asked.targets in
    let many : Bool = nat_lt 16 (length items) in
    let sessions : Bool = nat_lt 128 (sum_by (λ (item : TargetItem). length item.sessions) items) in
    tells_or (many || sessions) (list_any (λ (item : TargetItem). nat_lt 128 (length item.group)) items)
    (tells_or many sessions
    (subst (λ (n : ℕ). Tells many (16 < n)) (length-map asked.targets item_asked) (tells_lt 16 (length items)))
    (subst (λ (n : ℕ). Tells sessions (128 < n)) (sessions_in asked.targets) (tells_lt 128 (sum_by (λ (item : TargetItem). length item.sessions) items))))
    (subst (λ (b : Bool). Tells b ((block : TargetBlock) × Contains asked.targets block × (128 < length (unwrap_or block.group [])))) (sym (any_map (λ (item : TargetItem). nat_lt 128 (length item.group)) item_asked asked.targets))
    (tells_any (λ block. nat_lt 128 (length (unwrap_or block.group []))) (λ (block : TargetBlock). 128 < length (unwrap_or block.group [])) (λ block. tells_lt 128 (length (unwrap_or block.group []))) asked.targets))

pub targets_lem : TargetsAreRefusedForTheFirst
targets_lem state actor asked =
    verdict_refused state actor (Target asked) (AgainstAiming asked)
    ((UserLimit.target_number, (number_of_target asked == 0) || nat_lt 30 (number_of_target asked)) ∷ (UserLimit.large_target, is_oversize (target_asked asked)) ∷ []) refl (
      tells_or (number_of_target asked == 0) (nat_lt 30 (number_of_target asked)) (tells_eq (number_of_target asked) 0) (tells_lt 30 (number_of_target asked)),
      (λ _. (large asked, (λ _. tt))),
    )
