-- What decides a message: the first reason, or where nothing is against it, what it asks.
use Rattle.mum_rules_user.proofs.Common.{◌≡◌, ℕ, ◌&&◌, Bool, true, false, not, cond, List, Option, Some, None, refl, ap, sym, ◌∙◌, subst, is_some, option_map_or, not-false, true≢false, reason_code, reject_code, ChannelId, SessionId, ROOT, Reason, NotLoggedIn, NotThere, RejectType, Actor, is_there, Edit, Verdict, Accepted, Answer, Ignored, Rejected, granted_to, IsProper, StateValue, channel_or_root, is_number_there, first_lack, first_standing, IsAcceptedOrAnswered, IsFirstStanding, all_off, first_of, ignored_at, no_first, no_lack, rest_at, UserMessage, Join, User, Kick, Text, Target, Query, Leave, command_of, names_there, GrantsWhereNothingStands, IgnoresForFirstReason, needs_of, limits, edit_to_join, limits_of_login, answer_frame, answer_to_query, outcome, is_not_logged_in, reasons, actor_for}

-- ---- what a command is where nothing is against it

there_if_named : (state : StateValue) (number : Option ℕ) → IsProper state → option_map_or (is_number_there state.tree) number true ≡ true
    → is_there state.tree.channels (channel_or_root number) ≡ true
there_if_named state None proper named =
    let (row, found, root) = proper.tree.root in ap is_some found
there_if_named state (Some number) proper named = named

answered : (state : StateValue) (who : Actor) (id : ChannelId) → is_there state.tree.channels id ≡ true → IsAcceptedOrAnswered (answer_to_query state who id)
answered state who id there =
    subst
    (λ (b : Bool). IsAcceptedOrAnswered (option_map_or (λ held. Answer (answer_frame id held)) (cond b (Some (granted_to state who id)) None) (Ignored (reason_code NotThere))))
    (sym there) tt

granted : (state : StateValue) (who : Actor) (actor : SessionId) (message : UserMessage) → IsProper state → names_there state message ≡ true
    → IsAcceptedOrAnswered (outcome state who actor (command_of actor message))
granted state who actor (Join message version) proper named = tt
granted state who actor (User message) proper named = tt
granted state who actor (Kick message) proper named = tt
granted state who actor (Text message) proper named = tt
granted state who actor (Target message) proper named = tt
granted state who actor (Query message) proper named =
    answered state who (channel_or_root message.channel_id) (there_if_named state message.channel_id proper named)
granted state who actor Leave proper named = tt

not_ignored : (verdict : Verdict) (why : ℕ) → IsAcceptedOrAnswered verdict → verdict ≡ Ignored why → ⊥
not_ignored verdict why good is = subst IsAcceptedOrAnswered is good

named_from_reasons : (state : StateValue) (actor : SessionId) (message : UserMessage) → first_standing (reasons state (Some actor) message) ≡ None → names_there state message ≡ true
named_from_reasons state actor message none = not-false (names_there state message) (all_off (reasons state (Some actor) message) none).1.1.1.0

pub grants_where_nothing_stands_lem : GrantsWhereNothingStands
grants_where_nothing_stands_lem state actor message proper no_reason met no_limit =
    let command = command_of actor message in
    let who = actor_for state actor message in
    let none = no_first (reasons state (Some actor) message) no_reason in
    let is = rest_at (first_standing (reasons state (Some actor) message)) (first_lack state (needs_of state actor message)) (first_standing (limits state actor command))
    (outcome state who actor command) none (no_lack state (needs_of state actor message) met) (no_first (limits state actor command) no_limit) in
    subst IsAcceptedOrAnswered is (granted state who actor message proper (named_from_reasons state actor message none))

-- ---- the first reason

-- a login is ignored for a reason alone
login_ignored : (reason : Option Reason) (limit : Option RejectType) (edit : Edit) (why : ℕ)
    → option_map_or (λ r. Ignored (reason_code r)) reason (option_map_or (λ l. Rejected (reject_code l)) limit (Accepted edit)) ≡ Ignored why
    → (one : Reason) × (reason ≡ Some one) × (why ≡ reason_code one)
login_ignored (Some reason) limit edit why is = (reason, refl, cc)
login_ignored None (Some limit) edit why is = cc
login_ignored None None edit why is = cc

-- and anything else of whoever has no session always for one
unasked : (reason : Option Reason) (why : ℕ) → (reason ≡ None → ⊥)
    → option_map_or (λ r. Ignored (reason_code r)) reason (Ignored (reason_code NotLoggedIn)) ≡ Ignored why
    → (one : Reason) × (reason ≡ Some one) × (why ≡ reason_code one)
unasked (Some reason) why some is = (reason, refl, cc)
unasked None why some is = absurd (some refl)

for_first : (state : StateValue) (actor : Option SessionId) (message : UserMessage) (why : ℕ)
    → (reason : Reason) × (first_standing (reasons state actor message) ≡ Some reason) × (why ≡ reason_code reason)
    → (reason : Reason) × (why ≡ reason_code reason) × IsFirstStanding (reasons state actor message) reason
for_first state actor message why found =
    let (reason, some, code) = found in (reason, code, first_of (reasons state actor message) reason some)

-- whoever has no session and does not log in has a reason against it
unasked_for_first : (state : StateValue) (message : UserMessage) (why : ℕ) → is_not_logged_in None message ≡ true
    → option_map_or (λ r. Ignored (reason_code r)) (first_standing (reasons state None message)) (Ignored (reason_code NotLoggedIn)) ≡ Ignored why
    → (reason : Reason) × (why ≡ reason_code reason) × IsFirstStanding (reasons state None message) reason
unasked_for_first state message why on is =
    for_first state None message why
    (unasked (first_standing (reasons state None message)) why
    (λ none. true≢false (sym on ∙ (all_off (reasons state None message) none).1.0)) is)

pub ignores_for_first_reason_lem : IgnoresForFirstReason
ignores_for_first_reason_lem state (Some actor) message why proper is =
    let command = command_of actor message in
    let who = actor_for state actor message in
    for_first state (Some actor) message why
    (ignored_at (first_standing (reasons state (Some actor) message)) (first_lack state (needs_of state actor message)) (first_standing (limits state actor command))
    (outcome state who actor command) why
    (λ none. not_ignored (outcome state who actor command) why (granted state who actor message proper (named_from_reasons state actor message none))) is)
ignores_for_first_reason_lem state None (Join message version) why proper is =
    for_first state None (Join message version) why
    (login_ignored (first_standing (reasons state None (Join message version))) (first_standing (limits_of_login state version message)) (edit_to_join state message) why is)
ignores_for_first_reason_lem state None message why proper is = unasked_for_first state message why refl is
