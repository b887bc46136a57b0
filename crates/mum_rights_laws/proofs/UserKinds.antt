-- What an accepted message on users is: one of six edits, each with the permissions that it needs.
use Rattle.mum_rights_laws.proofs.Common.{◌≡◌, ℕ, ◌-◌, ◌||◌, Bool, true, false, not, cond, List, [], ◌∷◌, ◌++◌, length, map, take, Option, Some, None, refl, ap, sym, ◌∙◌, subst, take-nil, append-nil, All, Contains, filter, is_none, option_map_or, not-false, or_parts, All-contains_itself, All-filter, All-take, reason_code, ChannelId, SessionId, ROOT, NotThere, Perm, BAN, ENTER, KICK, LISTEN, MOVE, MUTE_DEAFEN, TextMessage, VoiceTarget, Authenticate, UserRemove, UserState, Actor, UserEdit, RosterState, is_long_token, session_of, TOKENS, User, fits, user_parts, actor_from, actor_with, granted_where_there, IsProper, StateValue, Edit, Leaves, SetTarget, SetTokens, Accepted, Answer, Ignored, FitsWhereAccepted, first_lack, first_standing, is_open, need, way, AllMet, is_gone, takes_no_edits, tokens_for_once, actor_named, nobody, all_off, outcome_at, all_met_where, channel_of, channels, is_here, is_oneself, new_channel, number_of_target, rules_speech, session_or, sets_own, target_asked, tokens_kept, is_ban, needs_to_kick, needs_to_listen, needs_to_rule_speech, edit_to_kick, edit_to_tell, actor_for, tokens_brought, user_verdict, UserMessage, Join, Changes, Kick, Text, Target, Query, Leave, enters_where_permitted_lem, leaves_own_to_others_lem, moves_where_permitted_lem, rules_speech_where_permitted_lem, clear, keeps_super_user_lem, spares_super_user_lem, may, may_with, IsActor, tokens_in}
use Rattle.mum_rules_user.proofs.Public.{accepted_fits}
use Rattle.mum_rules_user.specs.{Asked.command_of, Asked.names_there, Laws.needs_of, Limits.is_super_user, Limits.limits, Needs.needs_to_move, Outcome.answer_frame, Outcome.edit_to_change, Outcome.outcome, Reasons.reasons}
use Rattle.mum_rights_laws.proofs.Needed.{each_had, either_had, had, met_right, met_tail, open_is}

-- what is shown of an accepted UserState
pub record MayChange (before : StateValue) (actor : SessionId) (tokens : List (List ℕ)) (own : User) (asked : UserState) : Type 0 where
  pub enters : is_oneself actor (session_or actor asked.session) ≡ true → (there : ChannelId)
      → new_channel before.roster (session_or actor asked.session) asked ≡ Some there
      → (may_with before own tokens ENTER there || may_with before own tokens MOVE there) ≡ true
  pub moves : is_oneself actor (session_or actor asked.session) ≡ false → (was : User) → session_of before.roster (session_or actor asked.session) ≡ Some was
      → (there : ChannelId) → new_channel before.roster (session_or actor asked.session) asked ≡ Some there
      → (may_with before own tokens MOVE was.channel ≡ true) × ((may_with before own tokens MOVE there || may before was ENTER there) ≡ true)
  pub rules : rules_speech asked ≡ true → (was : User) → session_of before.roster (session_or actor asked.session) ≡ Some was
      → may_with before own tokens MUTE_DEAFEN was.channel ≡ true
  pub spares : rules_speech asked ≡ true → is_super_user before.roster (session_or actor asked.session) ≡ true
      → is_oneself actor (session_or actor asked.session) ≡ true
  pub listens : All (λ channel. may_with before own tokens LISTEN channel ≡ true) (channels asked.listening_channel_add)
  pub owns : is_oneself actor (session_or actor asked.session) ≡ false → sets_own asked ≡ false

-- what is shown of an accepted UserRemove
pub record MayKick (before : StateValue) (actor : SessionId) (own : User) (asked : UserRemove) : Type 0 where
  pub number : ℕ
  pub named : asked.session ≡ Some number
  pub kicks : (may before own KICK ROOT || may before own BAN ROOT) ≡ true
  pub bans : is_ban asked ≡ true → may before own BAN ROOT ≡ true
  pub spares : is_super_user before.roster (session_or actor asked.session) ≡ true → is_oneself actor (session_or actor asked.session) ≡ true

-- what an accepted UserState changes of the session that it is about
abbrev pub change_of : RosterState → SessionId → UserState → UserEdit
change_of roster actor asked =
    user_parts (new_channel roster (session_or actor asked.session) asked) asked.mute asked.deaf asked.priority_speaker asked.self_mute asked.self_deaf
    asked.recording asked.comment asked.plugin_context (channels asked.listening_channel_add) (channels asked.listening_channel_remove)

-- what is accepted of this session, where these tokens count
pub data IsUserKind (before : StateValue) (actor : SessionId) (own : User) (tokens : List (List ℕ)) : UserMessage → Edit → Type 0 where
  renews : (login : Authenticate) (version : Option ℕ) → IsUserKind before actor own tokens (Join login version) (SetTokens actor (tokens_kept login.tokens))
  changes : (asked : UserState) → MayChange before actor tokens own asked
      → IsUserKind before actor own tokens (Changes asked) (edit_to_change before.roster actor (session_or actor asked.session) asked)
  kicks : (asked : UserRemove) → MayKick before actor own asked
      → IsUserKind before actor own tokens (Kick asked) (edit_to_kick actor (session_or actor asked.session) asked)
  says : (asked : TextMessage) → IsUserKind before actor own tokens (Text asked) (edit_to_tell actor asked)
  aims : (asked : VoiceTarget) → IsUserKind before actor own tokens (Target asked) (SetTarget actor (number_of_target asked) (target_asked asked))
  leaves : IsUserKind before actor own tokens Leave (Leaves actor)

pub record IsUserEdit (before : StateValue) (actor : SessionId) (own : User) (tokens : List (List ℕ)) (message : UserMessage) (edit : Edit) : Type 0 where
  pub by : IsActor before actor message own tokens
  pub fit : IsProper before → fits before edit ≡ true
  pub kind : IsUserKind before actor own tokens message edit

query_edits_nothing : (id : ChannelId) (held : Option ℕ) (edit : Edit)
    → option_map_or (λ h. Answer (answer_frame id h)) held (Ignored (reason_code NotThere)) ≡ Accepted edit → ⊥
query_edits_nothing id None edit is = cc
query_edits_nothing id (Some held) edit is = cc

same_edit : (one other : Edit) → Accepted one ≡ Accepted other → one ≡ other
same_edit one other is = cc

here : (o : Option User) → is_none o ≡ false → (own : User) × (o ≡ Some own)
here None is = cc
here (Some own) is = (own, refl)

numbered : (roster : RosterState) (number : Option ℕ) → option_map_or (is_here roster) number false ≡ true → (n : ℕ) × (number ≡ Some n)
numbered roster None is = cc
numbered roster (Some n) is = (n, refl)

none_added : (own : List (List ℕ)) → tokens_for_once own [] ≡ own
none_added own = ap (λ (ts : List (List ℕ)). own ++ ts) (take-nil (TOKENS - length own)) ∙ append-nil own

brought_is : (message : UserMessage) → tokens_in message ≡ tokens_brought message
brought_is (Join login version) = refl
brought_is (Changes asked) = refl
brought_is (Kick asked) = refl
brought_is (Text asked) = refl
brought_is (Target asked) = refl
brought_is (Query asked) = refl
brought_is Leave = refl

counted : (message : UserMessage) (own : List (List ℕ)) → (added : List (List ℕ)) × All (Contains (tokens_in message)) added × (tokens_for_once own (tokens_brought message) ≡ own ++ added)
counted message own =
    let said = tokens_brought message in
    let short = filter (λ token. not (is_long_token token)) said in (
      take (TOKENS - length own) short,
      subst (λ (ts : List (List ℕ)). All (Contains ts) (take (TOKENS - length own) short)) (sym (brought_is message))
          (All-take (Contains said) (TOKENS - length own) short (All-filter (λ token. not (is_long_token token)) (Contains said) said (All-contains_itself said))),
      refl,
    )

module _ (before : StateValue) (actor : SessionId) (own : User) (there : session_of before.roster actor ≡ Some own) where
  abbrev counting : UserMessage → List (List ℕ)
  counting message = tokens_for_once own.tokens (tokens_brought message)

  -- the actor of a message, in words of its row
  actor_is : (message : UserMessage) → actor_for before actor message ≡ actor_with before.tree own (counting message)
  actor_is message =
      ap (λ (o : Option User). option_map_or (λ user. actor_with before.tree user (tokens_for_once user.tokens (tokens_brought message))) o nobody) there

  opened : (message : UserMessage) (perm : Perm) (channel : ChannelId)
      → is_open before (way (actor_for before actor message) perm channel) ≡ may_with before own (counting message) perm channel
  opened message perm channel = ap (λ who. is_open before (way who perm channel)) (actor_is message) ∙ open_is before own (counting message) perm channel

  met_of : (message : UserMessage) (edit : Edit) → user_verdict before (Some actor) message ≡ Accepted edit → AllMet before (needs_of before actor message)
  met_of message edit is = all_met_where before (needs_of before actor message) (clear before actor message edit is).needs

  may_change : (asked : UserState) (edit : Edit) → user_verdict before (Some actor) (Changes asked) ≡ Accepted edit
      → MayChange before actor (counting (Changes asked)) own asked
  may_change asked edit is =
      let message = Changes asked in
      let session = session_or actor asked.session in
      let who = actor_for before actor message in record {
        enters = λ oneself there new.
            ap (λ (b : Bool). b || may_with before own (counting message) MOVE there) (sym (opened message ENTER there))
            ∙ ap (λ (b : Bool). is_open before (way who ENTER there) || b) (sym (opened message MOVE there))
            ∙ enters_where_permitted_lem before actor asked edit there is oneself new;
        moves = λ other was found there new.
            let both = moves_where_permitted_lem before actor asked edit there is other new in
            let at : channel_of before.roster session ≡ was.channel = ap (λ (o : Option User). option_map_or (λ user. user.channel) o ROOT) found in
            let moved : actor_named before session ≡ actor_from before.tree was = ap (λ (o : Option User). option_map_or (actor_from before.tree) o nobody) found in (
              sym (opened message MOVE was.channel) ∙ ap (λ c. is_open before (way who MOVE c)) (sym at) ∙ both.0,
              ap (λ (b : Bool). b || may before was ENTER there) (sym (opened message MOVE there))
                  ∙ ap (λ (b : Bool). is_open before (way who MOVE there) || b) (sym (ap (λ one. is_open before (way one ENTER there)) moved ∙ open_is before was was.tokens ENTER there))
                  ∙ both.1,
            );
        rules = λ rules was found.
            let at : channel_of before.roster session ≡ was.channel = ap (λ (o : Option User). option_map_or (λ user. user.channel) o ROOT) found in
            sym (opened message MUTE_DEAFEN was.channel) ∙ ap (λ c. is_open before (way who MUTE_DEAFEN c)) (sym at)
            ∙ rules_speech_where_permitted_lem before actor asked edit is rules;
        spares = λ rules super. spares_super_user_lem before actor asked edit is rules super;
        listens = each_had before own (counting message) LISTEN (channels asked.listening_channel_add)
            (subst (λ (one : Actor). AllMet before (map (need one LISTEN) (channels asked.listening_channel_add))) (actor_is message)
            (met_right before (needs_to_move before who actor session asked ++ needs_to_rule_speech before who session asked) (needs_to_listen who asked) (met_of message edit is)));
        owns = λ other. leaves_own_to_others_lem before actor asked edit is other;
      }

  may_kick : (asked : UserRemove) (edit : Edit) → user_verdict before (Some actor) (Kick asked) ≡ Accepted edit → MayKick before actor own asked
  may_kick asked edit is =
      let message = Kick asked in
      let off = all_off (reasons before (Some actor) message) (clear before actor message edit is).reasons in
      let (number, named) = numbered before.roster asked.session (not-false (names_there before message) off.1.1.1.0) in
      let who = actor_with before.tree own own.tokens in
      let plain : actor_for before actor message ≡ who = actor_is message ∙ ap (actor_with before.tree own) (none_added own.tokens) in
      let met = subst (λ (one : Actor). AllMet before (needs_to_kick one asked)) plain (met_of message edit is) in record {
        number = number;
        named = named;
        kicks = either_had before own own.tokens KICK BAN ROOT ROOT _ met;
        bans = λ ban. had before own own.tokens BAN ROOT []
            (subst (λ (b : Bool). AllMet before (cond b (need who BAN ROOT ∷ []) [])) ban (met_tail before _ _ met));
        spares = λ super. keeps_super_user_lem before actor asked edit is super;
      }

  kind_of : (message : UserMessage) (edit : Edit) → user_verdict before (Some actor) message ≡ Accepted edit
      → outcome before (actor_for before actor message) actor (command_of actor message) ≡ Accepted edit
      → IsUserKind before actor own (counting message) message edit
  kind_of (Join login version) edit said is =
      subst (λ e. IsUserKind before actor own (counting (Join login version)) (Join login version) e) (same_edit (SetTokens actor (tokens_kept login.tokens)) edit is)
      (renews login version)
  kind_of (Changes asked) edit said is =
      subst (λ e. IsUserKind before actor own (counting (Changes asked)) (Changes asked) e)
      (same_edit (edit_to_change before.roster actor (session_or actor asked.session) asked) edit is) (changes asked (may_change asked edit said))
  kind_of (Kick asked) edit said is =
      subst (λ e. IsUserKind before actor own (counting (Kick asked)) (Kick asked) e)
      (same_edit (edit_to_kick actor (session_or actor asked.session) asked) edit is) (kicks asked (may_kick asked edit said))
  kind_of (Text asked) edit said is =
      subst (λ e. IsUserKind before actor own (counting (Text asked)) (Text asked) e) (same_edit (edit_to_tell actor asked) edit is) (says asked)
  kind_of (Target asked) edit said is =
      subst (λ e. IsUserKind before actor own (counting (Target asked)) (Target asked) e)
      (same_edit (SetTarget actor (number_of_target asked) (target_asked asked)) edit is) (aims asked)
  kind_of (Query asked) edit said is = absurd (query_edits_nothing _ (granted_where_there before _ _) edit is)
  kind_of Leave edit said is =
      subst (λ e. IsUserKind before actor own (counting Leave) Leave e) (same_edit (Leaves actor) edit is) leaves

pub user_edit : (before : StateValue) (actor : SessionId) (message : UserMessage) (edit : Edit)
    → user_verdict before (Some actor) message ≡ Accepted edit → (own : User) × (tokens : List (List ℕ)) × IsUserEdit before actor own tokens message edit
user_edit before actor message edit is =
    let command = command_of actor message in
    let free = clear before actor message edit is in
    let off = all_off (reasons before (Some actor) message) free.reasons in
    let (own, there) = here (session_of before.roster actor) (or_parts (is_gone before actor) (takes_no_edits before) off.0).0 in
    let (met, rest) = outcome_at (first_standing (reasons before (Some actor) message)) (first_lack before (needs_of before actor message))
    (first_standing (limits before actor command)) (outcome before (actor_for before actor message) actor command) edit is in (
      own,
      tokens_for_once own.tokens (tokens_brought message),
      record {
        by = record { there = there; counted = counted message own.tokens };
        fit = λ proper. subst (FitsWhereAccepted before) is (accepted_fits before actor message proper);
        kind = kind_of before actor own there message edit is rest;
      },
    )
