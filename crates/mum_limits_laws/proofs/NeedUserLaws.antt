-- A message on users is denied for the first need that is not met.
use Rattle.mum_limits_laws.proofs.Common.{◌≡◌, ℕ, ◌-◌, ◌==◌, ◌||◌, not, Bool, true, false, cond, List, [], ◌∷◌, ◌++◌, map, filter, take, length, Option, Some, None, refl, sym, ap, subst, ◌∙◌, is_some, unwrap_or, cons_option, filter_map, option_map, option_map_or, false≢true, append-nil, filter_map-append, take-nil, none-some, same_Some, reason_code, ChannelId, SessionId, ROOT, NotThere, Perm, BAN, ENTER, KICK, LISTEN, MOVE, MUTE_DEAFEN, TEXT_MESSAGE, UserRemove, UserState, Actor, row_of, session_of, User, actor_from, actor_with, granted_where_there, StateValue, Answer, Ignored, channel, given_unless, is_number_there, Need, first_standing, is_met, is_open, need, way, tokens_for_once, actor_named, nobody, channel_of, channels, channels_of, channels_there, is_oneself, new_channel, rules_speech, session_numbered, session_or, either_way, is_ban, needs_to_kick, needs_to_listen, needs_to_rule_speech, actor_for, user_verdict, UserMessage, Kick, Text, Changes, Tells, tells_eq, tells_or, tells_so, IsDeniedFor, MayNot, MayNotWith, KicksAreDeniedForTheFirst, LacksToKick, LacksToWrite, RulesSpeech, TextsAreDeniedForTheFirst, UserChangesAreDeniedForTheFirst, UserNeed, order_of_text, place_of_change, place_of_text, tokens_with}
use Rattle.mum_rules_user.specs.{Asked.Command, Asked.command_of, Limits.limits, Needs.needs, Outcome.answer_frame, Outcome.outcome, Reasons.reasons}
use Rattle.mum_limits_laws.specs.UserNeeds.{LacksToChange, order_of_change, permission}
use Rattle.mum_limits_laws.proofs.{Cases.some_given, NeedLaws.from_moved, NeedLaws.from_so, NeedLaws.names, Wanted.AreNamed, Wanted.IsOutcome, Wanted.denied_lem, Wanted.elsewhere, Wanted.lacks, Wanted.one_way, Wanted.two_ways, Wanted.unmet, Wanted.where_moved, Wanted.where_so}

-- ---- commands

pub ends : (state : StateValue) (who : Actor) (actor : SessionId) (command : Command) → IsOutcome (outcome state who actor command)
ends state who actor (Command.renew asked) = tt
ends state who actor (Command.change session asked) = tt
ends state who actor (Command.kick session asked) = tt
ends state who actor (Command.text asked) = tt
ends state who actor (Command.target asked) = tt
ends state who actor (Command.query id) = answers (granted_where_there state who id)
  where
    answers : (held : Option ℕ) → IsOutcome (option_map_or (λ one. Answer (answer_frame id one)) held (Ignored (reason_code NotThere)))
    answers None = tt
    answers (Some held) = tt
ends state who actor Command.leave = tt

verdict_denied : (state : StateValue) (actor : SessionId) (message : UserMessage) (asks : UserNeed → Option Need) (here : UserNeed → ℕ) (Applies : UserNeed → Type 0) (order : List UserNeed)
    → needs state (actor_for state actor message) actor (command_of actor message) ≡ filter_map asks order → ((cause : UserNeed) → Tells (unmet state (asks cause)) (Applies cause)) → AreNamed asks permission here Applies
    → IsDeniedFor permission here Applies order (user_verdict state (Some actor) message)
verdict_denied state actor message asks here Applies order are tells named =
    denied_lem state asks permission here Applies order (needs state (actor_for state actor message) actor (command_of actor message)) are tells named
    (first_standing (reasons state (Some actor) message)) (first_standing (limits state actor (command_of actor message)))
    (outcome state (actor_for state actor message) actor (command_of actor message)) (ends state (actor_for state actor message) actor (command_of actor message))

no_need : (state : StateValue) → Tells (unmet state None) ⊥
no_need state = record { so = λ is. false≢true is; not_so = λ _ never. never }

lacking : (state : StateValue) (user : User) (tokens : List (List ℕ)) (perm : Perm) (id : ChannelId)
    → Tells (not (is_met state (need (actor_with state.tree user tokens) perm id))) (MayNotWith state user tokens perm.0 id.0)
lacking state user tokens perm id = one_way (is_open state (way (actor_with state.tree user tokens) perm id)) (lacks state user tokens perm id)

none_added : (own : List (List ℕ)) → tokens_for_once own [] ≡ own
none_added own = ap (λ (list : List (List ℕ)). own ++ list) (take-nil (64 - length own)) ∙ append-nil own

-- the actor of a message that brings no tokens
plain_actor : (state : StateValue) (actor : SessionId) (user : User) → session_of state.roster actor ≡ Some user
    → option_map_or (λ (one : User). actor_with state.tree one (tokens_for_once one.tokens [])) (session_of state.roster actor) nobody ≡ actor_from state.tree user
plain_actor state actor user there =
    ap (λ (o : Option User). option_map_or (λ (one : User). actor_with state.tree one (tokens_for_once one.tokens [])) o nobody) there
    ∙ ap (actor_with state.tree user) (none_added user.tokens)

-- ---- a UserState

pub ruling : (asked : UserState) → Tells (rules_speech asked) (RulesSpeech asked)
ruling asked =
    tells_or (is_some asked.mute || is_some asked.deaf || not (unwrap_or asked.suppress true)) (is_some asked.priority_speaker)
    (tells_or (is_some asked.mute || is_some asked.deaf) (not (unwrap_or asked.suppress true))
    (tells_or (is_some asked.mute) (is_some asked.deaf) (some_given asked.mute) (some_given asked.deaf))
    (cleared asked.suppress))
    (some_given asked.priority_speaker)
  where
    cleared : (o : Option Bool) → Tells (not (unwrap_or o true)) (o ≡ Some false)
    cleared None = record { so = λ is. absurd (false≢true is); not_so = λ _ some. none-some false some }
    cleared (Some false) = record { so = λ _. refl; not_so = λ off _. false≢true (sym off) }
    cleared (Some true) = record { so = λ is. absurd (false≢true is); not_so = λ _ some. false≢true (sym (same_Some true false some)) }

-- the needs of a change, one by one
shape : (oneself rules : Bool) (enter : ChannelId → Need) (take : Need) (put : ChannelId → Need) (speech : Need) (o : Option ChannelId) (listen : List Need)
    → option_map_or (λ there. cond oneself (enter there ∷ []) (take ∷ put there ∷ [])) o [] ++ cond rules (speech ∷ []) [] ++ listen
    ≡ cons_option (cond oneself (option_map enter o) None) (cons_option (cond oneself None (option_map (λ (there : ChannelId). take) o))
    (cons_option (cond oneself None (option_map put o)) (cons_option (cond rules (Some speech) None) listen)))
shape true true enter take put speech None listen = refl
shape true true enter take put speech (Some there) listen = refl
shape true false enter take put speech None listen = refl
shape true false enter take put speech (Some there) listen = refl
shape false true enter take put speech None listen = refl
shape false true enter take put speech (Some there) listen = refl
shape false false enter take put speech None listen = refl
shape false false enter take put speech (Some there) listen = refl

if_so : {Fact Asked : Type 0} (state : StateValue) (b : Bool) (o : Option Need) → Tells b Fact → Tells (unmet state o) Asked → Tells (unmet state (cond b o None)) (Fact × Asked)
if_so state true o so tells = record { so = λ is. (so.so refl, tells.so is); not_so = λ is both. tells.not_so is both.1 }
if_so state false o so tells = record { so = λ is. absurd (false≢true is); not_so = λ _ both. so.not_so refl both.0 }

if_not : {Fact Asked : Type 0} (state : StateValue) (b : Bool) (o : Option Need) → Tells b Fact → Tells (unmet state o) Asked → Tells (unmet state (cond b None o)) ((Fact → ⊥) × Asked)
if_not state false o so tells = record { so = λ is. ((λ fact. so.not_so refl fact), tells.so is); not_so = λ is both. tells.not_so is both.1 }
if_not state true o so tells = record { so = λ is. absurd (false≢true is); not_so = λ _ both. both.0 (so.so refl) }

from_if : {X : Type 0} (b : Bool) (o : Option X) (x : X) → cond b o None ≡ Some x → o ≡ Some x
from_if true o x is = is
from_if false o x is = absurd (none-some x is)

from_if_not : {X : Type 0} (b : Bool) (o : Option X) (x : X) → cond b None o ≡ Some x → o ≡ Some x
from_if_not false o x is = is
from_if_not true o x is = absurd (none-some x is)

module _ (state : StateValue) (user it : User) (asked : UserState) where
  abbrev tokens : List (List ℕ)
  tokens = tokens_with user asked

  abbrev who : Actor
  who = actor_with state.tree user tokens

  abbrev moved : Actor
  moved = actor_from state.tree it

  abbrev oneself : Bool
  oneself = user.session.0 == it.session.0

  abbrev to_there : Option ChannelId
  to_there = elsewhere asked.channel_id it.channel.0

  abbrev asks_to_change : UserNeed → Option Need
  asks_to_change UserNeed.to_enter = cond oneself (option_map (either_way ENTER who MOVE who) to_there) None
  asks_to_change UserNeed.to_take_away = cond oneself None (option_map (λ (there : ChannelId). need who MOVE it.channel) to_there)
  asks_to_change UserNeed.to_put_into = cond oneself None (option_map (either_way MOVE who ENTER moved) to_there)
  asks_to_change UserNeed.to_rule_speech = cond (rules_speech asked) (Some (need who MUTE_DEAFEN it.channel)) None
  asks_to_change (UserNeed.to_listen n) = Some (need who LISTEN (channel n))
  asks_to_change other = None

  same_one : Tells oneself (it.session.0 ≡ user.session.0)
  same_one = tells_so oneself (λ (is : user.session.0 ≡ it.session.0). sym is) (λ (is : it.session.0 ≡ user.session.0). sym is) (tells_eq user.session.0 it.session.0)

  tells_to_change : (cause : UserNeed) → Tells (unmet state (asks_to_change cause)) (LacksToChange state user asked it cause)
  tells_to_change UserNeed.to_enter =
      if_so state oneself (option_map (either_way ENTER who MOVE who) to_there) same_one
      (where_moved state asked.channel_id it.channel.0 (either_way ENTER who MOVE who) (λ n. MayNotWith state user tokens 4 n × MayNotWith state user tokens 32 n)
      (λ n. two_ways (is_open state (way who ENTER (channel n))) (is_open state (way who MOVE (channel n))) (lacks state user tokens ENTER (channel n)) (lacks state user tokens MOVE (channel n))))
  tells_to_change UserNeed.to_take_away =
      if_not state oneself (option_map (λ (there : ChannelId). need who MOVE it.channel) to_there) same_one
      (where_moved state asked.channel_id it.channel.0 (λ there. need who MOVE it.channel) (λ n. MayNotWith state user tokens 32 it.channel.0) (λ n. lacking state user tokens MOVE it.channel))
  tells_to_change UserNeed.to_put_into =
      if_not state oneself (option_map (either_way MOVE who ENTER moved) to_there) same_one
      (where_moved state asked.channel_id it.channel.0 (either_way MOVE who ENTER moved) (λ n. MayNotWith state it it.tokens 4 n × MayNotWith state user tokens 32 n)
      (λ n. tells_so (not (is_met state (either_way MOVE who ENTER moved (channel n))))
      (λ (both : MayNotWith state user tokens 32 n × MayNotWith state it it.tokens 4 n). (both.1, both.0))
      (λ (both : MayNotWith state it it.tokens 4 n × MayNotWith state user tokens 32 n). (both.1, both.0))
      (two_ways (is_open state (way who MOVE (channel n))) (is_open state (way moved ENTER (channel n))) (lacks state user tokens MOVE (channel n)) (lacks state it it.tokens ENTER (channel n)))))
  tells_to_change UserNeed.to_rule_speech = where_so state (rules_speech asked) (need who MUTE_DEAFEN it.channel) (ruling asked) (lacking state user tokens MUTE_DEAFEN it.channel)
  tells_to_change (UserNeed.to_listen n) = lacking state user tokens LISTEN (channel n)
  tells_to_change other = no_need state

  named_to_change : AreNamed asks_to_change permission (place_of_change asked it) (LacksToChange state user asked it)
  named_to_change UserNeed.to_enter wanted is _ =
      names (either_way ENTER who MOVE who (channel (unwrap_or asked.channel_id 0))) wanted 4 (unwrap_or asked.channel_id 0)
      (from_moved asked.channel_id it.channel.0 (either_way ENTER who MOVE who) wanted (from_if oneself (option_map (either_way ENTER who MOVE who) to_there) wanted is)) refl refl
  named_to_change UserNeed.to_take_away wanted is _ =
      names (need who MOVE it.channel) wanted 32 it.channel.0
      (from_moved asked.channel_id it.channel.0 (λ there. need who MOVE it.channel) wanted (from_if_not oneself (option_map (λ (there : ChannelId). need who MOVE it.channel) to_there) wanted is)) refl refl
  named_to_change UserNeed.to_put_into wanted is _ =
      names (either_way MOVE who ENTER moved (channel (unwrap_or asked.channel_id 0))) wanted 32 (unwrap_or asked.channel_id 0)
      (from_moved asked.channel_id it.channel.0 (either_way MOVE who ENTER moved) wanted (from_if_not oneself (option_map (either_way MOVE who ENTER moved) to_there) wanted is)) refl refl
  named_to_change UserNeed.to_rule_speech wanted is _ =
      names (need who MUTE_DEAFEN it.channel) wanted 16 it.channel.0 (from_so (rules_speech asked) (need who MUTE_DEAFEN it.channel) wanted is) refl refl
  named_to_change (UserNeed.to_listen n) wanted is _ =
      names (need who LISTEN (channel n)) wanted 2048 n (same_Some (need who LISTEN (channel n)) wanted is) refl refl
  named_to_change other wanted is never = absurd never

  each_listening : (numbers : List ℕ) → map (need who LISTEN) (channels numbers) ≡ filter_map asks_to_change (map UserNeed.to_listen numbers)
  each_listening [] = refl
  each_listening (n ∷ numbers) = ap (λ (list : List Need). need who LISTEN (channel n) ∷ list) (each_listening numbers)

pub user_changes_lem : UserChangesAreDeniedForTheFirst
user_changes_lem state actor user it asked there own found named =
    let session : SessionId = session_or actor asked.session in
    let who : Actor = actor_with state.tree user (tokens_with user asked) in
    let here : session_of state.roster session ≡ Some it = ap (session_of state.roster) (session_is asked.session actor) ∙ found in
    let actor_is : actor_for state actor (Changes asked) ≡ who =
    ap (λ (o : Option User). option_map_or (λ (one : User). actor_with state.tree one (tokens_for_once one.tokens asked.temporary_access_tokens)) o nobody) there in
    let at : channel_of state.roster session ≡ it.channel = ap (λ (o : Option User). option_map_or (λ (one : User). one.channel) o ROOT) here in
    let moved_is : actor_named state session ≡ actor_from state.tree it = ap (λ (o : Option User). option_map_or (actor_from state.tree) o nobody) here in
    let same : is_oneself actor session ≡ (user.session.0 == it.session.0) =
    ap (λ (one : SessionId). one.0 == session.0) (sym own) ∙ ap (λ (n : ℕ). user.session.0 == n) (ap (λ (one : SessionId). one.0) (session_is asked.session actor) ∙ sym named) in
    verdict_denied state actor (Changes asked) (asks_to_change state user it asked) (place_of_change asked it) (LacksToChange state user asked it) (order_of_change asked)
    (ap (λ (one : Actor). needs state one actor (Command.change session asked)) actor_is
    ∙ ap (λ (b : Bool). option_map_or (λ there. cond b (either_way ENTER who MOVE who there ∷ [])
    (need who MOVE (channel_of state.roster session) ∷ either_way MOVE who ENTER (actor_named state session) there ∷ [])) (new_channel state.roster session asked) []
    ++ needs_to_rule_speech state who session asked ++ needs_to_listen who asked) same
    ∙ ap (λ (id : ChannelId). option_map_or (λ there. cond (user.session.0 == it.session.0) (either_way ENTER who MOVE who there ∷ [])
    (need who MOVE id ∷ either_way MOVE who ENTER (actor_named state session) there ∷ [])) (given_unless (λ (one : ChannelId). one.0 == id.0) (option_map channel asked.channel_id)) []
    ++ cond (rules_speech asked) (need who MUTE_DEAFEN id ∷ []) [] ++ needs_to_listen who asked) at
    ∙ ap (λ (one : Actor). option_map_or (λ there. cond (user.session.0 == it.session.0) (either_way ENTER who MOVE who there ∷ [])
    (need who MOVE it.channel ∷ either_way MOVE who ENTER one there ∷ [])) (elsewhere asked.channel_id it.channel.0) []
    ++ cond (rules_speech asked) (need who MUTE_DEAFEN it.channel ∷ []) [] ++ needs_to_listen who asked) moved_is
    ∙ shape (user.session.0 == it.session.0) (rules_speech asked) (either_way ENTER who MOVE who) (need who MOVE it.channel) (either_way MOVE who ENTER (actor_from state.tree it))
    (need who MUTE_DEAFEN it.channel) (elsewhere asked.channel_id it.channel.0) (needs_to_listen who asked)
    ∙ ap (λ (list : List Need). cons_option (asks_to_change state user it asked UserNeed.to_enter) (cons_option (asks_to_change state user it asked UserNeed.to_take_away)
    (cons_option (asks_to_change state user it asked UserNeed.to_put_into) (cons_option (asks_to_change state user it asked UserNeed.to_rule_speech) list))))
    (each_listening state user it asked asked.listening_channel_add))
    (tells_to_change state user it asked) (named_to_change state user it asked)
  where
    session_is : (number : Option ℕ) (actor : SessionId) → session_or actor number ≡ record { 0 = unwrap_or number actor.0 }
    session_is None actor = refl
    session_is (Some n) actor = refl

-- ---- a removal of a session

banning : (asked : UserRemove) → Tells (is_ban asked) (asked.ban ≡ Some true)
banning asked = step asked.ban
  where
    step : (o : Option Bool) → Tells (unwrap_or o false) (o ≡ Some true)
    step None = record { so = λ is. absurd (false≢true is); not_so = λ _ some. none-some true some }
    step (Some true) = record { so = λ _. refl; not_so = λ off _. false≢true (sym off) }
    step (Some false) = record { so = λ is. absurd (false≢true is); not_so = λ _ some. false≢true (same_Some false true some) }

module _ (state : StateValue) (user : User) (asked : UserRemove) where
  abbrev kicker : Actor
  kicker = actor_from state.tree user

  abbrev asks_to_kick : UserNeed → Option Need
  asks_to_kick UserNeed.to_kick = Some (either_way KICK kicker BAN kicker ROOT)
  asks_to_kick UserNeed.to_ban = cond (is_ban asked) (Some (need kicker BAN ROOT)) None
  asks_to_kick other = None

  tells_to_kick : (cause : UserNeed) → Tells (unmet state (asks_to_kick cause)) (LacksToKick state user asked cause)
  tells_to_kick UserNeed.to_kick =
      two_ways (is_open state (way kicker KICK ROOT)) (is_open state (way kicker BAN ROOT)) (lacks state user user.tokens KICK ROOT) (lacks state user user.tokens BAN ROOT)
  tells_to_kick UserNeed.to_ban = where_so state (is_ban asked) (need kicker BAN ROOT) (banning asked) (lacking state user user.tokens BAN ROOT)
  tells_to_kick other = no_need state

  named_to_kick : AreNamed asks_to_kick permission (λ need. 0) (LacksToKick state user asked)
  named_to_kick UserNeed.to_kick wanted is _ = names (either_way KICK kicker BAN kicker ROOT) wanted 65536 0 (same_Some (either_way KICK kicker BAN kicker ROOT) wanted is) refl refl
  named_to_kick UserNeed.to_ban wanted is _ = names (need kicker BAN ROOT) wanted 131072 0 (from_so (is_ban asked) (need kicker BAN ROOT) wanted is) refl refl
  named_to_kick other wanted is never = absurd never

  kick_shape : (b : Bool) → either_way KICK kicker BAN kicker ROOT ∷ cond b (need kicker BAN ROOT ∷ []) []
      ≡ cons_option (Some (either_way KICK kicker BAN kicker ROOT)) (cons_option (cond b (Some (need kicker BAN ROOT)) None) [])
  kick_shape true = refl
  kick_shape false = refl

pub kicks_lem : KicksAreDeniedForTheFirst
kicks_lem state actor user asked there =
    verdict_denied state actor (Kick asked) (asks_to_kick state user asked) (λ need. 0) (LacksToKick state user asked) (UserNeed.to_kick ∷ UserNeed.to_ban ∷ [])
    (ap (λ (who : Actor). needs_to_kick who asked) (plain_actor state actor user there) ∙ kick_shape state user asked (is_ban asked))
    (tells_to_kick state user asked) (named_to_kick state user asked)

-- ---- a text

module _ (state : StateValue) (user : User) where
  abbrev writer : Actor
  writer = actor_from state.tree user

  abbrev at : ℕ → Option User
  at n = session_of state.roster (session_numbered n)

  abbrev asks_to_write : UserNeed → Option Need
  asks_to_write (UserNeed.to_write_to n) = option_map (λ (it : User). need writer TEXT_MESSAGE it.channel) (at n)
  asks_to_write (UserNeed.to_write_in n) = cond (is_number_there state.tree n) (Some (need writer TEXT_MESSAGE (channel n))) None
  asks_to_write other = None

  tells_to_write : (cause : UserNeed) → Tells (unmet state (asks_to_write cause)) (LacksToWrite state user cause)
  tells_to_write (UserNeed.to_write_to n) = step (at n)
    where
      step : (o : Option User) → Tells (unmet state (option_map (λ (it : User). need writer TEXT_MESSAGE it.channel) o)) ((it : User) × (o ≡ Some it) × MayNot state user 512 it.channel.0)
      step None = record { so = λ is. absurd (false≢true is); not_so = λ _ some. none-some some.0 some.1 }
      step (Some it) =
          tells_so (not (is_met state (need writer TEXT_MESSAGE it.channel))) (λ (lack : MayNot state user 512 it.channel.0). (it, refl, lack))
          (λ (some : (one : User) × (Some it ≡ Some one) × MayNot state user 512 one.channel.0). subst (λ (one : User). MayNot state user 512 one.channel.0) (sym (same_Some it some.0 some.1)) some.2)
          (lacking state user user.tokens TEXT_MESSAGE it.channel)
  tells_to_write (UserNeed.to_write_in n) =
      where_so state (is_number_there state.tree n) (need writer TEXT_MESSAGE (channel n)) (some_given (row_of state.tree.channels (channel n))) (lacking state user user.tokens TEXT_MESSAGE (channel n))
  tells_to_write other = no_need state

  named_to_write : AreNamed asks_to_write permission (place_of_text state) (LacksToWrite state user)
  named_to_write (UserNeed.to_write_to n) wanted is _ = step (at n) is
    where
      step : (o : Option User) → option_map (λ (it : User). need writer TEXT_MESSAGE it.channel) o ≡ Some wanted
          → (wanted.first.perm.0 ≡ 512) × (wanted.first.channel.0 ≡ option_map_or (λ (it : User). it.channel.0) o 0)
      step None never = absurd (none-some wanted never)
      step (Some it) some = names (need writer TEXT_MESSAGE it.channel) wanted 512 it.channel.0 (same_Some (need writer TEXT_MESSAGE it.channel) wanted some) refl refl
  named_to_write (UserNeed.to_write_in n) wanted is _ =
      names (need writer TEXT_MESSAGE (channel n)) wanted 512 n (from_so (is_number_there state.tree n) (need writer TEXT_MESSAGE (channel n)) wanted is) refl refl
  named_to_write other wanted is never = absurd never

  each_session : (numbers : List ℕ) (rest : List ChannelId) (others : List Need) → map (need writer TEXT_MESSAGE) rest ≡ others
      → map (need writer TEXT_MESSAGE) (channels_of state.roster numbers ++ rest) ≡ filter_map asks_to_write (map UserNeed.to_write_to numbers) ++ others
  each_session [] rest others same = same
  each_session (n ∷ numbers) rest others same = step (at n) (each_session numbers rest others same)
    where
      step : (o : Option User) → map (need writer TEXT_MESSAGE) (channels_of state.roster numbers ++ rest) ≡ filter_map asks_to_write (map UserNeed.to_write_to numbers) ++ others
          → map (need writer TEXT_MESSAGE) (cons_option (option_map (λ (it : User). it.channel) o) (channels_of state.roster numbers) ++ rest)
          ≡ cons_option (option_map (λ (it : User). need writer TEXT_MESSAGE it.channel) o) (filter_map asks_to_write (map UserNeed.to_write_to numbers)) ++ others
      step None is = is
      step (Some it) is = ap (λ (list : List Need). need writer TEXT_MESSAGE it.channel ∷ list) is

  each_channel : (numbers more : List ℕ)
      → map (need writer TEXT_MESSAGE) (channels_there state numbers ++ channels_there state more) ≡ filter_map asks_to_write (map UserNeed.to_write_in (numbers ++ more))
  each_channel [] [] = refl
  each_channel [] (n ∷ more) = step (is_number_there state.tree n) (each_channel [] more)
    where
      step : (b : Bool) → map (need writer TEXT_MESSAGE) (channels_there state more) ≡ filter_map asks_to_write (map UserNeed.to_write_in more)
          → map (need writer TEXT_MESSAGE) (channels (cond b (n ∷ filter (is_number_there state.tree) more) (filter (is_number_there state.tree) more)))
          ≡ cons_option (cond b (Some (need writer TEXT_MESSAGE (channel n))) None) (filter_map asks_to_write (map UserNeed.to_write_in more))
      step true is = ap (λ (list : List Need). need writer TEXT_MESSAGE (channel n) ∷ list) is
      step false is = is
  each_channel (n ∷ numbers) more = step (is_number_there state.tree n) (each_channel numbers more)
    where
      step : (b : Bool) → map (need writer TEXT_MESSAGE) (channels_there state numbers ++ channels_there state more) ≡ filter_map asks_to_write (map UserNeed.to_write_in (numbers ++ more))
          → map (need writer TEXT_MESSAGE) (channels (cond b (n ∷ filter (is_number_there state.tree) numbers) (filter (is_number_there state.tree) numbers)) ++ channels_there state more)
          ≡ cons_option (cond b (Some (need writer TEXT_MESSAGE (channel n))) None) (filter_map asks_to_write (map UserNeed.to_write_in (numbers ++ more)))
      step true is = ap (λ (list : List Need). need writer TEXT_MESSAGE (channel n) ∷ list) is
      step false is = is

regrouped : {X : Type 0} (xs ys zs : List X) → xs ++ ys ++ zs ≡ xs ++ (ys ++ zs)
regrouped [] ys zs = refl
regrouped (x ∷ xs) ys zs = ap (λ (list : List _). x ∷ list) (regrouped xs ys zs)

pub texts_lem : TextsAreDeniedForTheFirst
texts_lem state actor user asked there =
    let who : Actor = actor_from state.tree user in
    verdict_denied state actor (Text asked) (asks_to_write state user) (place_of_text state) (LacksToWrite state user) (order_of_text asked)
    (ap (λ (one : Actor). needs state one actor (Command.text asked)) (plain_actor state actor user there)
    ∙ ap (map (need who TEXT_MESSAGE)) (regrouped (channels_of state.roster asked.session) (channels_there state asked.channel_id) (channels_there state asked.tree_id))
    ∙ each_session state user asked.session (channels_there state asked.channel_id ++ channels_there state asked.tree_id)
    (filter_map (asks_to_write state user) (map UserNeed.to_write_in (asked.channel_id ++ asked.tree_id))) (each_channel state user asked.channel_id asked.tree_id)
    ∙ sym (filter_map-append (asks_to_write state user) (map UserNeed.to_write_to asked.session) (map UserNeed.to_write_in (asked.channel_id ++ asked.tree_id))))
    (tells_to_write state user) (named_to_write state user)
