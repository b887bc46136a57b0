-- What an accepted UserState shows of the permissions of whoever sent it.
use Rattle.mum_rules_user.proofs.Common.{◌≡◌, ℕ, ◌&&◌, ◌||◌, Bool, true, false, not, cond, List, [], ◌∷◌, ◌++◌, Option, Some, None, refl, ap, sym, ◌∙◌, subst, All, option_map_or, All-cons, All-head, All-nil, All-tail, ChannelId, SessionId, ENTER, MOVE, MUTE_DEAFEN, UserState, Actor, Edit, Accepted, StateValue, Need, is_met, is_open, need, way, AllMet, actor_named, all_off, all_met_where, User, channel_of, is_oneself, new_channel, rules_speech, session_or, sets_own, EntersWherePermitted, LeavesOwnToOthers, MovesWherePermitted, RulesSpeechWherePermitted, needs_of, either_way, needs_to_bring, needs_to_enter, needs_to_listen, needs_to_move, needs_to_rule_speech, reasons, actor_for, user_verdict}
use Rattle.mum_rules_user.proofs.Firsts.{clear}

-- ---- of needs that are all met, the first are, and the others

first_met : (state : StateValue) (needs others : List Need) → AllMet state (needs ++ others) → AllMet state needs
first_met state [] others met = All-nil (λ wanted. is_met state wanted ≡ true)
first_met state (wanted ∷ needs) others met =
    All-cons (λ w. is_met state w ≡ true) wanted needs (All-head (λ w. is_met state w ≡ true) wanted (needs ++ others) met)
    (first_met state needs others (All-tail (λ w. is_met state w ≡ true) wanted (needs ++ others) met))

others_met : (state : StateValue) (needs others : List Need) → AllMet state (needs ++ others) → AllMet state others
others_met state [] others met = met
others_met state (wanted ∷ needs) others met = others_met state needs others (All-tail (λ w. is_met state w ≡ true) wanted (needs ++ others) met)

one_met : (state : StateValue) (wanted : Need) (needs : List Need) → AllMet state (wanted ∷ needs) → is_met state wanted ≡ true
one_met state wanted needs met = All-head (λ w. is_met state w ≡ true) wanted needs met

or_end : (a b : Bool) → (a || (b || false)) ≡ (a || b)
or_end true b = refl
or_end false true = refl
or_end false false = refl

-- ---- what an accepted UserState needed

all_needs : (state : StateValue) (actor : SessionId) (message : UserState) (edit : Edit) → user_verdict state (Some actor) (User message) ≡ Accepted edit → AllMet state (needs_of state actor (User message))
all_needs state actor message edit is = all_met_where state (needs_of state actor (User message)) (clear state actor (User message) edit is).needs

moving_met : (state : StateValue) (actor : SessionId) (message : UserState) (edit : Edit) → user_verdict state (Some actor) (User message) ≡ Accepted edit → AllMet state (needs_to_move state (actor_for state actor (User message)) actor (session_or actor message.session) message)
moving_met state actor message edit is =
    let who = actor_for state actor (User message) in
    let session = session_or actor message.session in
    let moving = needs_to_move state who actor session message in
    let speech = needs_to_rule_speech state who session message in
    first_met state moving speech (first_met state (moving ++ speech) (needs_to_listen who message) (all_needs state actor message edit is))

-- the needs of a move, where there is one
moving_is : (state : StateValue) (who : Actor) (actor session : SessionId) (message : UserState) (there : ChannelId) (own : Bool) → new_channel state.roster session message ≡ Some there → is_oneself actor session ≡ own → needs_to_move state who actor session message ≡ cond own (needs_to_enter who there) (needs_to_bring who (actor_named state session) (channel_of state.roster session) there)
moving_is state who actor session message there own new same =
    let bring : (ChannelId → List Need) = λ at. needs_to_bring who (actor_named state session) (channel_of state.roster session) at in
    ap (λ (o : Option ChannelId). option_map_or (λ at. cond (is_oneself actor session) (needs_to_enter who at) (bring at)) o []) new
    ∙ ap (λ (b : Bool). cond b (needs_to_enter who there) (bring there)) same

pub enters_where_permitted_lem : EntersWherePermitted
enters_where_permitted_lem state actor message edit there is own new =
    let who = actor_for state actor (User message) in
    let session = session_or actor message.session in
    let met = subst (AllMet state) (moving_is state who actor session message there true new own) (moving_met state actor message edit is) in
    sym (or_end (is_open state (way who ENTER there)) (is_open state (way who MOVE there)))
    ∙ one_met state (either_way ENTER who MOVE who there) [] met

pub moves_where_permitted_lem : MovesWherePermitted
moves_where_permitted_lem state actor message edit there is other new =
    let who = actor_for state actor (User message) in
    let session = session_or actor message.session in
    let moved = actor_named state session in
    let here = channel_of state.roster session in
    let met = subst (AllMet state) (moving_is state who actor session message there false new other) (moving_met state actor message edit is) in
    let last = either_way MOVE who ENTER moved there in (
      or_none (is_open state (way who MOVE here)) (one_met state (need who MOVE here) (last ∷ []) met),
      sym (or_end (is_open state (way who MOVE there)) (is_open state (way moved ENTER there)))
          ∙ one_met state last [] (All-tail (λ w. is_met state w ≡ true) (need who MOVE here) (last ∷ []) met),
    )
  where
    or_none : (a : Bool) → (a || false) ≡ true → a ≡ true
    or_none true on = refl
    or_none false on = cc

pub rules_speech_where_permitted_lem : RulesSpeechWherePermitted
rules_speech_where_permitted_lem state actor message edit is rules =
    let who = actor_for state actor (User message) in
    let session = session_or actor message.session in
    let here = channel_of state.roster session in
    let moving = needs_to_move state who actor session message in
    let speech = needs_to_rule_speech state who session message in
    let met = others_met state moving speech (first_met state (moving ++ speech) (needs_to_listen who message) (all_needs state actor message edit is)) in
    or_none (is_open state (way who MUTE_DEAFEN here))
    (one_met state (need who MUTE_DEAFEN here) [] (subst (λ (b : Bool). AllMet state (cond b (need who MUTE_DEAFEN here ∷ []) [])) rules met))
  where
    or_none : (a : Bool) → (a || false) ≡ true → a ≡ true
    or_none true on = refl
    or_none false on = cc

pub leaves_own_to_others_lem : LeavesOwnToOthers
leaves_own_to_others_lem state actor message edit is other =
    let off = all_off (reasons state (Some actor) (User message)) (clear state actor (User message) edit is).reasons in
    sets_none (is_oneself actor (session_or actor message.session)) (sets_own message) off.1.1.1.1.0 other
  where
    sets_none : (own sets : Bool) → (not own && sets) ≡ false → own ≡ false → sets ≡ false
    sets_none true sets off other = cc
    sets_none false sets off other = off
