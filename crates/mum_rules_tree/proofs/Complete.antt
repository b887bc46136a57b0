-- What decides a message: the first reason, need or limit, or else what it asks.
use Rattle.mum_rules_tree.proofs.Common.{◌≡◌, ℕ, ◌||◌, Bool, true, false, not, cond, eqb, List, [], ◌∷◌, ◌++◌, map, Option, Some, None, refl, ap, sym, ◌∙◌, subst, find, All, is_some, option_map, option_map_or, cond-false, not-false, not_from_true, All-head, All-tail, All-weaker, ChannelId, SessionId, DenyType, Reason, NotThere, WRITE, deny_code, reason_code, AclMessage, ChannelState, Actor, ChannelPolicy, Row, parent_of, is_there, number, Edit, SetAcl, Verdict, Accepted, Answer, Ignored, Lacks, Refused, IsProper, PolicyRow, StateValue, policy_of, TreeMessage, Acl, Remove, State, Lack, Command, channel, channel_or_root, command_of, is_named_there, is_query, names_there, Case, Need, case_of, first_lack, first_standing, is_met, is_open, lack_of, way, AllMet, GrantsWhereNothingStands, IgnoresForFirstReason, IsAcceptedOrAnswered, IsFirstStanding, NoneStands, RefusesForFirstLimit, WritersSetPolicies, needs_of, limits, need_to_rule, needs, answer_frame, answer_to_query, outcome, reasons, actor_named, tree_verdict}
use Rattle.mum_rules_tree.proofs.{Cleared.all_off, Firsts.IsFound, Firsts.all_met_where, Firsts.first_found, Firsts.none_stands, Firsts.something_mapped, Firsts.told}

-- ---- what does not apply is not found

none_passes : {X : Type 0} (p : X → Bool) (xs : List X) → All (λ x. p x ≡ false) xs → find p xs ≡ None
none_passes p [] all = refl
none_passes {X} p (x ∷ xs) all =
    cond-false (p x) (Some x) (find p xs) (All-head (λ y. p y ≡ false) x xs all) ∙ none_passes p xs (All-tail (λ y. p y ≡ false) x xs all)

pub no_first : {Code : Type 0} (cases : List (Case Code)) → NoneStands cases → first_standing cases ≡ None
no_first cases none = ap (option_map (λ one. one.code)) (none_passes (λ one. one.stands) cases none)

pub no_lack : (state : StateValue) (needs : List Need) → AllMet state needs → first_lack state needs ≡ None
no_lack state needs met =
    ap (option_map lack_of)
    (none_passes (λ wanted. not (is_met state wanted)) needs
    (All-weaker (λ wanted. is_met state wanted ≡ true) (λ wanted. not (is_met state wanted) ≡ false) (λ wanted on. not_from_true (is_met state wanted) on) needs met))

-- the first that applies
pub first_of : {Code : Type 0} (cases : List (Case Code)) (code : Code) → first_standing cases ≡ Some code → IsFirstStanding cases code
first_of {Code} cases code some =
    let (one, found, is) = something_mapped (λ (one : Case Code). one.code) (find (λ one. one.stands) cases) code some in
    let place = first_found (λ (one : Case Code). one.stands) cases one found in
    let same : one ≡ case_of code true = ap (case_of one.code) place.passes ∙ ap (λ (c : Code). case_of c true) is in
    record {
      before = place.before;
      after = place.after;
      whole = place.whole ∙ ap (λ (c : Case Code). place.before ++ c ∷ place.after) same;
      none = place.none;
    }

-- ---- which of the four a verdict is

pub ignored_at : (reason : Option Reason) (lack : Option Lack) (kind : Option DenyType) (rest : Verdict) (why : ℕ) → (reason ≡ None → rest ≡ Ignored why → ⊥) → told reason lack kind rest ≡ Ignored why → (one : Reason) × (reason ≡ Some one) × (why ≡ reason_code one)
ignored_at (Some reason) lack kind rest why never is = (reason, refl, cc)
ignored_at None (Some lack) kind rest why never is = cc
ignored_at None None (Some kind) rest why never is = cc
ignored_at None None None rest why never is = absurd (never refl is)

pub refused_at : (reason : Option Reason) (lack : Option Lack) (limit : Option DenyType) (rest : Verdict) (kind : ℕ) → (rest ≡ Refused kind → ⊥) → told reason lack limit rest ≡ Refused kind → (reason ≡ None) × (lack ≡ None) × ((one : DenyType) × (limit ≡ Some one) × (kind ≡ deny_code one))
refused_at (Some reason) lack limit rest kind never is = cc
refused_at None (Some lack) limit rest kind never is = cc
refused_at None None (Some one) rest kind never is = (refl, refl, (one, refl, cc))
refused_at None None None rest kind never is = absurd (never is)

pub outcome_at : (reason : Option Reason) (lack : Option Lack) (limit : Option DenyType) (rest : Verdict) (edit : Edit) → told reason lack limit rest ≡ Accepted edit → (lack ≡ None) × (rest ≡ Accepted edit)
outcome_at (Some reason) lack limit rest edit is = cc
outcome_at None (Some lack) limit rest edit is = cc
outcome_at None None (Some one) rest edit is = cc
outcome_at None None None rest edit is = (refl, is)

-- where none of them applies it is what it asks
pub rest_at : (reason : Option Reason) (lack : Option Lack) (limit : Option DenyType) (rest : Verdict) → reason ≡ None → lack ≡ None → limit ≡ None → rest ≡ told reason lack limit rest
rest_at None None None rest no_reason no_lack no_limit = refl
rest_at (Some reason) lack limit rest no_reason no_lack no_limit = cc
rest_at None (Some lack) limit rest no_reason no_lack no_limit = cc
rest_at None None (Some one) rest no_reason no_lack no_limit = cc

-- ---- a query is answered

has_policy : (policies : List PolicyRow) (rows : List Row) (id : ChannelId) → map (λ (row : PolicyRow). row.channel) policies ≡ map (λ (row : Row). row.channel.id) rows → is_some (find (λ (row : PolicyRow). eqb row.channel.0 id.0) policies) ≡ is_some (find (λ (row : Row). eqb (number row) id.0) rows)
has_policy [] [] id same = refl
has_policy [] (row ∷ rows) id same = cc
has_policy (policy ∷ policies) [] id same = cc
has_policy (policy ∷ policies) (row ∷ rows) id same =
    let first : policy.channel ≡ row.channel.id = cc in
    let others : map (λ (p : PolicyRow). p.channel) policies ≡ map (λ (r : Row). r.channel.id) rows = cc in
    let later = has_policy policies rows id others in
    ap (λ (c : ChannelId). is_some (cond (eqb c.0 id.0) (Some policy) (find (λ (p : PolicyRow). eqb p.channel.0 id.0) policies))) first
    ∙ either (eqb (number row) id.0) later
  where
    either : (b : Bool) → is_some (find (λ (p : PolicyRow). eqb p.channel.0 id.0) policies) ≡ is_some (find (λ (r : Row). eqb (number r) id.0) rows)
        → is_some (cond b (Some policy) (find (λ (p : PolicyRow). eqb p.channel.0 id.0) policies)) ≡ is_some (cond b (Some row) (find (λ (r : Row). eqb (number r) id.0) rows))
    either true later = refl
    either false later = later

given : (found : Option PolicyRow) → is_some found ≡ true → (policy : ChannelPolicy) × (option_map (λ (row : PolicyRow). row.policy) found ≡ Some policy)
given None some = cc
given (Some row) some = (row.policy, refl)

answered : (state : StateValue) (id : ChannelId) → IsProper state → is_there state.tree.channels id ≡ true → (policy : ChannelPolicy) × (answer_to_query state id ≡ Answer (answer_frame id policy))
answered state id proper there =
    let (policy, found) = given (find (λ (row : PolicyRow). eqb row.channel.0 id.0) state.policies) (has_policy state.policies state.tree.channels id proper.policies ∙ there) in
    (policy, ap (λ (o : Option ChannelPolicy). option_map_or (λ p. Answer (answer_frame id p)) o (Ignored (reason_code NotThere))) found)

there_if_named : (tree : _) (number : Option ℕ) → is_named_there tree number ≡ true → is_there tree.channels (channel_or_root number) ≡ true
there_if_named tree None named = cc
there_if_named tree (Some number) named = named

-- ---- what a command is where nothing is against it

made_or_changed : (state : StateValue) (actor : SessionId) (message : ChannelState) (asked : Option ℕ) → IsAcceptedOrAnswered (outcome state actor (option_map_or (λ number. Command.edit (channel number) message) asked (Command.make message)))
made_or_changed state actor message None = tt
made_or_changed state actor message (Some number) = tt

ruled : (state : StateValue) (actor : SessionId) (id : ChannelId) (message : AclMessage) (query : Bool) → IsProper state → is_there state.tree.channels id ≡ true → IsAcceptedOrAnswered (outcome state actor (cond query (Command.query id) (Command.set id message)))
ruled state actor id message true proper there = let (policy, is) = answered state id proper there in subst IsAcceptedOrAnswered (sym is) tt
ruled state actor id message false proper there = tt

granted : (state : StateValue) (actor : SessionId) (message : TreeMessage) → IsProper state → names_there state.tree message ≡ true → IsAcceptedOrAnswered (outcome state actor (command_of message))
granted state actor (State message) proper named = made_or_changed state actor message message.channel_id
granted state actor (Remove message) proper named = tt
granted state actor (Acl message) proper named =
    ruled state actor (channel_or_root message.channel_id) message (is_query message) proper (there_if_named state.tree message.channel_id named)

not_ignored : (verdict : Verdict) (why : ℕ) → IsAcceptedOrAnswered verdict → verdict ≡ Ignored why → ⊥
not_ignored verdict why good is = subst IsAcceptedOrAnswered is good

query_refuses_not : (id : ChannelId) (policy : Option ChannelPolicy) (kind : ℕ) → option_map_or (λ p. Answer (answer_frame id p)) policy (Ignored (reason_code NotThere)) ≡ Refused kind → ⊥
query_refuses_not id None kind is = cc
query_refuses_not id (Some policy) kind is = cc

outcome_refuses_not : (state : StateValue) (actor : SessionId) (command : Command) (kind : ℕ) → outcome state actor command ≡ Refused kind → ⊥
outcome_refuses_not state actor (Command.make message) kind is = cc
outcome_refuses_not state actor (Command.edit id message) kind is = cc
outcome_refuses_not state actor (Command.remove id) kind is = cc
outcome_refuses_not state actor (Command.query id) kind is = query_refuses_not id (policy_of state id) kind is
outcome_refuses_not state actor (Command.set id message) kind is = cc

-- ---- the laws

named_from_reasons : (state : StateValue) (actor : SessionId) (message : TreeMessage) → first_standing (reasons state actor message) ≡ None → names_there state.tree message ≡ true
named_from_reasons state actor message none = not-false (names_there state.tree message) (all_off (reasons state actor message) none).1.1.0

pub grants_where_nothing_stands_lem : GrantsWhereNothingStands
grants_where_nothing_stands_lem state actor message proper no_reason met no_limit =
    let command = command_of message in
    let none = no_first (reasons state actor message) no_reason in
    let is = rest_at (first_standing (reasons state actor message)) (first_lack state (needs_of state actor message)) (first_standing (limits state command)) (outcome state actor command) none (no_lack state (needs_of state actor message) met) (no_first (limits state command) no_limit) in
    subst IsAcceptedOrAnswered is (granted state actor message proper (named_from_reasons state actor message none))

pub ignores_for_first_reason_lem : IgnoresForFirstReason
ignores_for_first_reason_lem state actor message why proper is =
    let command = command_of message in
    let (reason, some, code) = ignored_at (first_standing (reasons state actor message)) (first_lack state (needs_of state actor message)) (first_standing (limits state command)) (outcome state actor command) why
    (λ none. not_ignored (outcome state actor command) why (granted state actor message proper (named_from_reasons state actor message none))) is in
    (reason, code, first_of (reasons state actor message) reason some)

pub refuses_for_first_limit_lem : RefusesForFirstLimit
refuses_for_first_limit_lem state actor message kind is =
    let command = command_of message in
    let (none, met, (limit, some, code)) = refused_at (first_standing (reasons state actor message)) (first_lack state (needs_of state actor message)) (first_standing (limits state command)) (outcome state actor command) kind (outcome_refuses_not state actor command kind) is in
    (none_stands (reasons state actor message) none, all_met_where state (needs_of state actor message) met, (limit, code, first_of (limits state command) limit some))

-- ---- who sets policies

or_end : (a b : Bool) → (a || (b || false)) ≡ (a || b)
or_end true b = refl
or_end false true = refl
or_end false false = refl

query_sets_nothing : (id : ChannelId) (policy : Option ChannelPolicy) (edit : Edit) → option_map_or (λ p. Answer (answer_frame id p)) policy (Ignored (reason_code NotThere)) ≡ Accepted edit → ⊥
query_sets_nothing id None edit is = cc
query_sets_nothing id (Some policy) edit is = cc

set_by_writer : (state : StateValue) (who : Actor) (actor : SessionId) (command : Command) (id : ChannelId) (by : Option SessionId) (policy : ChannelPolicy) → AllMet state (needs state.tree who command) → outcome state actor command ≡ Accepted (SetAcl id by policy) → (by ≡ Some actor) × ((is_open state (way who WRITE id) || is_open state (way who WRITE (parent_of state.tree id))) ≡ true)
set_by_writer state who actor (Command.make message) id by policy met is = cc
set_by_writer state who actor (Command.edit channel message) id by policy met is = cc
set_by_writer state who actor (Command.remove channel) id by policy met is = cc
set_by_writer state who actor (Command.query channel) id by policy met is = absurd (query_sets_nothing channel (policy_of state channel) (SetAcl id by policy) is)
set_by_writer state who actor (Command.set channel message) id by policy met is =
    let same : channel ≡ id = cc in
    let from : by ≡ Some actor = cc in
    let open_there : (ChannelId → Bool) = λ c. is_open state (way who WRITE c) || is_open state (way who WRITE (parent_of state.tree c)) in (
      from,
      ap open_there (sym same)
          ∙ sym (or_end (is_open state (way who WRITE channel)) (is_open state (way who WRITE (parent_of state.tree channel))))
          ∙ All-head (λ wanted. is_met state wanted ≡ true) (need_to_rule state.tree who channel) [] met,
    )

pub writers_set_policies_lem : WritersSetPolicies
writers_set_policies_lem state actor message id by policy is =
    let command = command_of message in
    let (met, rest) = outcome_at (first_standing (reasons state actor message)) (first_lack state (needs_of state actor message)) (first_standing (limits state command)) (outcome state actor command) (SetAcl id by policy) is in
    set_by_writer state (actor_named state actor) actor command id by policy (all_met_where state (needs_of state actor message) met) rest
