-- What a verdict says of the tables.
use Rattle.mum_rules_user.proofs.Common.{◌≡◌, ℕ, ◌&&◌, Bool, true, false, not, List, Option, Some, None, refl, ap, sym, ◌∙◌, option_map_or, not-false, ChannelId, SessionId, Perm, Authenticate, Actor, Account, Edit, Verdict, Accepted, Answer, Ignored, Lacks, Refused, Rejected, granted_where_there, StateValue, account_named, DenyType, Lack, Reason, NotThere, NotLoggedIn, deny_code, reason_code, first_lack, first_standing, all_off, first_of, refused_at, all_met_where, first_missing, none_stands, UserMessage, Join, User, Kick, Text, Target, Query, Leave, RejectType, Command, command_of, is_oneself, rules_speech, session_or, reject_code, AcceptsWhereNothingStands, KeepsSuperUser, LogsInWhereNothingStands, NamesFirstMissing, OwnersAlone, RefusesForFirstLimit, RejectsForFirstLimit, SparesSuperUser, needs_of, is_super_user, limits, edit_to_join, is_digest_of, is_not_the_owner, limits_of_login, name_given, password_given, answer_frame, outcome, reasons, actor_for, user_verdict}

-- ---- a session

abbrev told : Option Reason → Option Lack → Option DenyType → Verdict → Verdict
told reason lack kind rest =
    option_map_or (λ r. Ignored (reason_code r)) reason
    (option_map_or (λ l. Lacks l.perm l.channel) lack
    (option_map_or (λ k. Refused (deny_code k)) kind rest))

lacking_at : (reason : Option Reason) (lack : Option Lack) (kind : Option DenyType) (rest : Verdict) (perm : Perm) (channel : ChannelId) → (rest ≡ Lacks perm channel → ⊥) → told reason lack kind rest ≡ Lacks perm channel → (reason ≡ None) × ((one : Lack) × (lack ≡ Some one) × (one.perm ≡ perm) × (one.channel ≡ channel))
lacking_at (Some reason) lack kind rest perm channel never is = cc
lacking_at None (Some one) kind rest perm channel never is = (refl, (one, refl, cc, cc))
lacking_at None None (Some kind) rest perm channel never is = cc
lacking_at None None None rest perm channel never is = absurd (never is)

pub record AreClear (reason : Option Reason) (lack : Option Lack) (kind : Option DenyType) : Type 0 where
  pub reasons : reason ≡ None
  pub needs : lack ≡ None
  pub limits : kind ≡ None

accepted_at : (reason : Option Reason) (lack : Option Lack) (kind : Option DenyType) (rest : Verdict) (edit : Edit) → told reason lack kind rest ≡ Accepted edit → AreClear reason lack kind
accepted_at (Some reason) lack kind rest edit is = cc
accepted_at None (Some one) kind rest edit is = cc
accepted_at None None (Some kind) rest edit is = cc
accepted_at None None None rest edit is = record { reasons = refl; needs = refl; limits = refl }

answer_lacks_not : (id : ChannelId) (held : Option ℕ) (perm : Perm) (channel : ChannelId) → option_map_or (λ h. Answer (answer_frame id h)) held (Ignored (reason_code NotThere)) ≡ Lacks perm channel → ⊥
answer_lacks_not id None perm channel is = cc
answer_lacks_not id (Some held) perm channel is = cc

outcome_lacks_not : (state : StateValue) (who : Actor) (actor : SessionId) (command : Command) (perm : Perm) (channel : ChannelId) → outcome state who actor command ≡ Lacks perm channel → ⊥
outcome_lacks_not state who actor (Command.renew message) perm channel is = cc
outcome_lacks_not state who actor (Command.change session message) perm channel is = cc
outcome_lacks_not state who actor (Command.kick session message) perm channel is = cc
outcome_lacks_not state who actor (Command.text message) perm channel is = cc
outcome_lacks_not state who actor (Command.target message) perm channel is = cc
outcome_lacks_not state who actor (Command.query id) perm channel is = answer_lacks_not id (granted_where_there state who id) perm channel is
outcome_lacks_not state who actor Command.leave perm channel is = cc

pub names_first_missing_lem : NamesFirstMissing
names_first_missing_lem state actor message perm channel is =
    let command = command_of actor message in
    let who = actor_for state actor message in
    let (none, (lack, some, same_perm, same_channel)) = lacking_at (first_standing (reasons state (Some actor) message)) (first_lack state (needs_of state actor message)) (first_standing (limits state actor command)) (outcome state who actor command) perm channel (outcome_lacks_not state who actor command perm channel) is in
    (none_stands (reasons state (Some actor) message) none, first_missing state (needs_of state actor message) lack perm channel some same_perm same_channel)

pub clear : (state : StateValue) (actor : SessionId) (message : UserMessage) (edit : Edit) → user_verdict state (Some actor) message ≡ Accepted edit → AreClear (first_standing (reasons state (Some actor) message)) (first_lack state (needs_of state actor message)) (first_standing (limits state actor (command_of actor message)))
clear state actor message edit is =
    accepted_at (first_standing (reasons state (Some actor) message)) (first_lack state (needs_of state actor message)) (first_standing (limits state actor (command_of actor message)))
    (outcome state (actor_for state actor message) actor (command_of actor message)) edit is

pub accepts_where_nothing_stands_lem : AcceptsWhereNothingStands
accepts_where_nothing_stands_lem state actor message edit is =
    let free = clear state actor message edit is in
    (none_stands (reasons state (Some actor) message) free.reasons, all_met_where state (needs_of state actor message) free.needs, none_stands (limits state actor (command_of actor message)) free.limits)

-- ---- the first limit

answer_refuses_not : (id : ChannelId) (held : Option ℕ) (kind : ℕ) → option_map_or (λ h. Answer (answer_frame id h)) held (Ignored (reason_code NotThere)) ≡ Refused kind → ⊥
answer_refuses_not id None kind is = cc
answer_refuses_not id (Some held) kind is = cc

outcome_refuses_not : (state : StateValue) (who : Actor) (actor : SessionId) (command : Command) (kind : ℕ) → outcome state who actor command ≡ Refused kind → ⊥
outcome_refuses_not state who actor (Command.renew message) kind is = cc
outcome_refuses_not state who actor (Command.change session message) kind is = cc
outcome_refuses_not state who actor (Command.kick session message) kind is = cc
outcome_refuses_not state who actor (Command.text message) kind is = cc
outcome_refuses_not state who actor (Command.target message) kind is = cc
outcome_refuses_not state who actor (Command.query id) kind is = answer_refuses_not id (granted_where_there state who id) kind is
outcome_refuses_not state who actor Command.leave kind is = cc

pub refuses_for_first_limit_lem : RefusesForFirstLimit
refuses_for_first_limit_lem state actor message kind is =
    let command = command_of actor message in
    let who = actor_for state actor message in
    let (none, met, (limit, some, code)) = refused_at (first_standing (reasons state (Some actor) message)) (first_lack state (needs_of state actor message)) (first_standing (limits state actor command)) (outcome state who actor command) kind (outcome_refuses_not state who actor command kind) is in
    (none_stands (reasons state (Some actor) message) none, all_met_where state (needs_of state actor message) met, (limit, code, first_of (limits state actor command) limit some))

-- ---- SuperUser

-- what is not so of SuperUser's session and another is so of one's own
oneself : (own super : Bool) → (not own && super) ≡ false → super ≡ true → own ≡ true
oneself true super off on = refl
oneself false super off on = cc

spared : (rules own super : Bool) → (rules && (not own && super)) ≡ false → rules ≡ true → super ≡ true → own ≡ true
spared true own super off set on = oneself own super off on
spared false own super off set on = cc

pub spares_super_user_lem : SparesSuperUser
spares_super_user_lem state actor message edit is set on =
    let session = session_or actor message.session in
    let free = clear state actor (User message) edit is in
    spared (rules_speech message) (is_oneself actor session) (is_super_user state.roster session) (all_off (limits state actor (Command.change session message)) free.limits).0 set on

pub keeps_super_user_lem : KeepsSuperUser
keeps_super_user_lem state actor message edit is on =
    let session = session_or actor message.session in
    let free = clear state actor (Kick message) edit is in
    oneself (is_oneself actor session) (is_super_user state.roster session) (all_off (limits state actor (Command.kick session message)) free.limits).0 on

-- ---- a login

abbrev told_of_login : Option Reason → Option RejectType → Verdict → Verdict
told_of_login reason kind rest =
    option_map_or (λ r. Ignored (reason_code r)) reason (option_map_or (λ k. Rejected (reject_code k)) kind rest)

login_at : (reason : Option Reason) (kind : Option RejectType) (rest : Verdict) (edit : Edit) → told_of_login reason kind rest ≡ Accepted edit → (reason ≡ None) × (kind ≡ None)
login_at (Some reason) kind rest edit is = cc
login_at None (Some kind) rest edit is = cc
login_at None None rest edit is = (refl, refl)

no_login_at : (reason : Option Reason) (edit : Edit) → option_map_or (λ r. Ignored (reason_code r)) reason (Ignored (reason_code NotLoggedIn)) ≡ Accepted edit → ⊥
no_login_at (Some reason) edit is = cc
no_login_at None edit is = cc

logged_in : (state : StateValue) (login : Authenticate) (version : Option ℕ) (edit : Edit) → user_verdict state None (Join login version) ≡ Accepted edit → (first_standing (reasons state None (Join login version)) ≡ None) × (first_standing (limits_of_login state version login) ≡ None)
logged_in state login version edit is = login_at (first_standing (reasons state None (Join login version))) (first_standing (limits_of_login state version login)) (Accepted (edit_to_join state login)) edit is

pub logs_in_where_nothing_stands_lem : LogsInWhereNothingStands
logs_in_where_nothing_stands_lem state (Join login version) edit is =
    let (none, free) = logged_in state login version edit is in
    (login, version, refl, none_stands (reasons state None (Join login version)) none, none_stands (limits_of_login state version login) free)
logs_in_where_nothing_stands_lem state (User message) edit is = absurd (no_login_at (first_standing (reasons state None (User message))) edit is)
logs_in_where_nothing_stands_lem state (Kick message) edit is = absurd (no_login_at (first_standing (reasons state None (Kick message))) edit is)
logs_in_where_nothing_stands_lem state (Text message) edit is = absurd (no_login_at (first_standing (reasons state None (Text message))) edit is)
logs_in_where_nothing_stands_lem state (Target message) edit is = absurd (no_login_at (first_standing (reasons state None (Target message))) edit is)
logs_in_where_nothing_stands_lem state (Query message) edit is = absurd (no_login_at (first_standing (reasons state None (Query message))) edit is)
logs_in_where_nothing_stands_lem state Leave edit is = absurd (no_login_at (first_standing (reasons state None Leave)) edit is)

owner : (account : Account) (found : Option Account) (password : List ℕ) → found ≡ Some account → is_not_the_owner found password ≡ false → is_digest_of password account.digest ≡ true
owner account found password is off =
    not-false (is_digest_of password account.digest) (sym (ap (λ (o : Option Account). is_not_the_owner o password) is) ∙ off)

pub owners_alone_lem : OwnersAlone
owners_alone_lem state login version edit account is named =
    let (none, free) = logged_in state login version edit is in
    owner account (account_named state (name_given login)) (password_given login) named (all_off (limits_of_login state version login) free).1.1.0

rejected_at : (reason : Option Reason) (limit : Option RejectType) (edit : Edit) (kind : ℕ) → told_of_login reason limit (Accepted edit) ≡ Rejected kind → (reason ≡ None) × ((one : RejectType) × (limit ≡ Some one) × (kind ≡ reject_code one))
rejected_at (Some reason) limit edit kind is = cc
rejected_at None (Some one) edit kind is = (refl, (one, refl, cc))
rejected_at None None edit kind is = cc

pub rejects_for_first_limit_lem : RejectsForFirstLimit
rejects_for_first_limit_lem state login version kind is =
    let (none, (limit, some, code)) = rejected_at (first_standing (reasons state None (Join login version))) (first_standing (limits_of_login state version login)) (edit_to_join state login) kind is in
    (none_stands (reasons state None (Join login version)) none, (limit, code, first_of (limits_of_login state version login) limit some))
