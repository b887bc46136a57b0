-- A message on channels is denied for the first need that is not met.
use Rattle.mum_limits_laws.proofs.Common.{◌≡◌, ◌≢◌, ℕ, ◌==◌, ◌||◌, not, Bool, true, false, cond, List, [], ◌∷◌, ◌++◌, map, filter, length, Option, Some, None, refl, sym, ap, subst, ◌∙◌, arith, is_some, unwrap_or, cons_option, filter_map, list_any, option_map, option_map_or, false≢true, ne_eqb, none-some, same_Some, ChannelId, SessionId, Perm, LINK_CHANNEL, MAKE_CHANNEL, MAKE_TEMP_CHANNEL, WRITE, ChannelState, ChannelPolicy, Actor, Row, session_of, User, actor_from, StateValue, policy_of, Answer, Ignored, reason_code, NotThere, Command, channel, command_of, describes, given_unless, is_other, is_query, is_to_be_temporary, linked_others, new_parent, others, parent_of_new, Need, first_standing, is_met, is_open, need, way, limits, need_to_rule, needs, needs_to_link, answer_frame, outcome, reasons, actor_named, nobody, tree_verdict, TreeMessage, Acl, Remove, State, Tells, tells_any, tells_eq, tells_not, tells_or, IsDeniedFor, MayNot, ChangesAreDeniedForTheFirst, Describes, LacksToChange, LacksToMake, LacksToRemove, LacksToRule, Links, NewChannelsAreDeniedForTheFirst, PoliciesAreDeniedForTheFirst, RemovalsAreDeniedForTheFirst, TreeNeed, order_of_change, permission, place}
use Rattle.mum_limits_laws.proofs.{Cases.some_given, Wanted.AreNamed, Wanted.IsOutcome, Wanted.denied_lem, Wanted.elsewhere, Wanted.lacks, Wanted.one_way, Wanted.two_ways, Wanted.unless_so, Wanted.unmet, Wanted.where_moved, Wanted.where_so}

-- ---- commands

pub ends : (state : StateValue) (actor : SessionId) (command : Command) → IsOutcome (outcome state actor command)
ends state actor (Command.make asked) = tt
ends state actor (Command.edit id asked) = tt
ends state actor (Command.remove id) = tt
ends state actor (Command.query id) = answers (policy_of state id)
  where
    answers : (policy : Option ChannelPolicy) → IsOutcome (option_map_or (λ one. Answer (answer_frame id one)) policy (Ignored (reason_code NotThere)))
    answers None = tt
    answers (Some policy) = tt
ends state actor (Command.set id asked) = tt

actor_is : (state : StateValue) (actor : SessionId) (user : User) → session_of state.roster actor ≡ Some user → actor_named state actor ≡ actor_from state.tree user
actor_is state actor user there = ap (λ (o : Option User). option_map_or (actor_from state.tree) o nobody) there

lacking : (state : StateValue) (user : User) (perm : Perm) (id : ChannelId) → Tells (not (is_met state (need (actor_from state.tree user) perm id))) (MayNot state user perm.0 id.0)
lacking state user perm id = one_way (is_open state (way (actor_from state.tree user) perm id)) (lacks state user user.tokens perm id)

pub from_so : {X : Type 0} (b : Bool) (one other : X) → cond b (Some one) None ≡ Some other → one ≡ other
from_so true one other is = same_Some one other is
from_so false one other is = absurd (none-some other is)

pub from_unless : {X : Type 0} (b : Bool) (one other : X) → cond b None (Some one) ≡ Some other → one ≡ other
from_unless false one other is = same_Some one other is
from_unless true one other is = absurd (none-some other is)

pub from_moved : (given : Option ℕ) (here : ℕ) (wanted : ChannelId → Need) (found : Need) → option_map wanted (elsewhere given here) ≡ Some found → wanted (channel (unwrap_or given 0)) ≡ found
from_moved None here wanted found is = absurd (none-some found is)
from_moved (Some n) here wanted found is = step (n == here) is
  where
    step : (b : Bool) → option_map wanted (cond b None (Some (channel n))) ≡ Some found → wanted (channel n) ≡ found
    step true never = absurd (none-some found never)
    step false some = same_Some (wanted (channel n)) found some

-- what a need names
pub names : (one other : Need) (permission place : ℕ) → one ≡ other → one.first.perm.0 ≡ permission → one.first.channel.0 ≡ place → (other.first.perm.0 ≡ permission) × (other.first.channel.0 ≡ place)
names one other permission place same perm id = (ap (λ (n : Need). n.first.perm.0) (sym same) ∙ perm, ap (λ (n : Need). n.first.channel.0) (sym same) ∙ id)

verdict_denied : (state : StateValue) (actor : SessionId) (message : TreeMessage) (asks : TreeNeed → Option Need) (here : TreeNeed → ℕ) (Applies : TreeNeed → Type 0) (order : List TreeNeed)
    → needs state.tree (actor_named state actor) (command_of message) ≡ filter_map asks order → ((cause : TreeNeed) → Tells (unmet state (asks cause)) (Applies cause)) → AreNamed asks permission here Applies
    → IsDeniedFor permission here Applies order (tree_verdict state actor message)
verdict_denied state actor message asks here Applies order are tells named =
    denied_lem state asks permission here Applies order (needs state.tree (actor_named state actor) (command_of message)) are tells named
    (first_standing (reasons state actor message)) (first_standing (limits state (command_of message))) (outcome state actor (command_of message)) (ends state actor (command_of message))

-- never asked for
no_need : (state : StateValue) → Tells (unmet state None) ⊥
no_need state = record { so = λ is. false≢true is; not_so = λ _ never. never }

-- ---- a new channel

temporary : (o : Option Bool) → Tells (unwrap_or o false) (o ≡ Some true)
temporary None = record { so = λ is. absurd (false≢true is); not_so = λ _ some. none-some true some }
temporary (Some true) = record { so = λ _. refl; not_so = λ off _. false≢true (sym off) }
temporary (Some false) = record { so = λ is. absurd (false≢true is); not_so = λ _ some. false≢true (same_Some false true some) }

module _ (state : StateValue) (user : User) (asked : ChannelState) (parent : ℕ) where
  abbrev who : Actor
  who = actor_from state.tree user

  abbrev asks_to_make : TreeNeed → Option Need
  asks_to_make TreeNeed.to_make = cond (is_to_be_temporary asked) None (Some (need who MAKE_CHANNEL (channel parent)))
  asks_to_make TreeNeed.to_make_temporary = cond (is_to_be_temporary asked) (Some (need who MAKE_TEMP_CHANNEL (channel parent))) None
  asks_to_make other = None

  tells_to_make : (cause : TreeNeed) → Tells (unmet state (asks_to_make cause)) (LacksToMake state user asked parent cause)
  tells_to_make TreeNeed.to_make =
      unless_so state (is_to_be_temporary asked) (need who MAKE_CHANNEL (channel parent)) (tells_not (is_to_be_temporary asked) (temporary asked.temporary)) (lacking state user MAKE_CHANNEL (channel parent))
  tells_to_make TreeNeed.to_make_temporary =
      where_so state (is_to_be_temporary asked) (need who MAKE_TEMP_CHANNEL (channel parent)) (temporary asked.temporary) (lacking state user MAKE_TEMP_CHANNEL (channel parent))
  tells_to_make other = no_need state

  named_to_make : AreNamed asks_to_make permission (place parent parent) (LacksToMake state user asked parent)
  named_to_make TreeNeed.to_make wanted is _ =
      names (need who MAKE_CHANNEL (channel parent)) wanted 64 parent (from_unless (is_to_be_temporary asked) (need who MAKE_CHANNEL (channel parent)) wanted is) refl refl
  named_to_make TreeNeed.to_make_temporary wanted is _ =
      names (need who MAKE_TEMP_CHANNEL (channel parent)) wanted 1024 parent (from_so (is_to_be_temporary asked) (need who MAKE_TEMP_CHANNEL (channel parent)) wanted is) refl refl
  named_to_make other wanted is never = absurd never

  one_of_two : (b : Bool) → need who (cond b MAKE_TEMP_CHANNEL MAKE_CHANNEL) (channel parent) ∷ []
      ≡ cons_option (cond b None (Some (need who MAKE_CHANNEL (channel parent)))) (cons_option (cond b (Some (need who MAKE_TEMP_CHANNEL (channel parent))) None) [])
  one_of_two true = refl
  one_of_two false = refl

pub new_channels_lem : NewChannelsAreDeniedForTheFirst
new_channels_lem state actor user asked parent there none under =
    let command : command_of (State asked) ≡ Command.make asked = ap (λ (o : Option ℕ). option_map_or (λ n. Command.edit (channel n) asked) o (Command.make asked)) none in
    let at : parent_of_new asked ≡ channel parent = ap (λ (o : Option ℕ). option_map_or channel o (record { 0 = 0 })) under in
    verdict_denied state actor (State asked) (asks_to_make state user asked parent) (place parent parent) (LacksToMake state user asked parent) (TreeNeed.to_make ∷ TreeNeed.to_make_temporary ∷ [])
    (ap (needs state.tree (actor_named state actor)) command
    ∙ ap (λ (who : Actor). need who (cond (is_to_be_temporary asked) MAKE_TEMP_CHANNEL MAKE_CHANNEL) (parent_of_new asked) ∷ []) (actor_is state actor user there)
    ∙ ap (λ (id : ChannelId). need (actor_from state.tree user) (cond (is_to_be_temporary asked) MAKE_TEMP_CHANNEL MAKE_CHANNEL) id ∷ []) at
    ∙ one_of_two state user asked parent (is_to_be_temporary asked))
    (tells_to_make state user asked parent) (named_to_make state user asked parent)

-- ---- a change of a channel

some_left : (id : ChannelId) (numbers : List ℕ) → (length (others id numbers) == 0) ≡ not (list_any (is_other id) numbers)
some_left id [] = refl
some_left id (n ∷ numbers) = step (is_other id n) (some_left id numbers)
  where
    no_length : {X : Type 0} (x : X) (xs : List X) → (length (x ∷ xs) == 0) ≡ false
    no_length x xs = ne_eqb (length (x ∷ xs)) 0 (λ (e : length (x ∷ xs) ≡ 0). absurd (omega (arith, e)))

    step : (b : Bool) → (length (others id numbers) == 0) ≡ not (list_any (is_other id) numbers)
        → (length (map channel (cond b (n ∷ filter (is_other id) numbers) (filter (is_other id) numbers))) == 0) ≡ not (b || list_any (is_other id) numbers)
    step true rest = no_length (channel n) (map channel (filter (is_other id) numbers))
    step false rest = rest

both_lists : (id : ChannelId) (adds removes : List ℕ) → others id adds ++ others id removes ≡ others id (adds ++ removes)
both_lists id [] removes = refl
both_lists id (n ∷ adds) removes = step (is_other id n) (both_lists id adds removes)
  where
    step : (b : Bool) → others id adds ++ others id removes ≡ others id (adds ++ removes)
        → map channel (cond b (n ∷ filter (is_other id) adds) (filter (is_other id) adds)) ++ others id removes
        ≡ map channel (cond b (n ∷ filter (is_other id) (adds ++ removes)) (filter (is_other id) (adds ++ removes)))
    step true rest = ap (λ (list : List ChannelId). channel n ∷ list) rest
    step false rest = rest

describing : (asked : ChannelState) → Tells (describes asked) (Describes asked)
describing asked =
    tells_or (is_some asked.name || is_some asked.description || is_some asked.position) (is_some asked.max_users)
    (tells_or (is_some asked.name || is_some asked.description) (is_some asked.position)
    (tells_or (is_some asked.name) (is_some asked.description) (some_given asked.name) (some_given asked.description))
    (some_given asked.position))
    (some_given asked.max_users)

-- the needs of a change, one by one
shape : (b : Bool) (describe take : Need) (put : ChannelId → Need) (o : Option ChannelId) (links listed : List Need) → links ≡ listed
    → cond b (describe ∷ []) [] ++ option_map_or (λ there. take ∷ put there ∷ []) o [] ++ links
    ≡ cons_option (cond b (Some describe) None) (cons_option (option_map (λ (there : ChannelId). take) o) (cons_option (option_map put o) listed))
shape true describe take put None links listed same = ap (λ (list : List Need). describe ∷ list) same
shape true describe take put (Some there) links listed same = ap (λ (list : List Need). describe ∷ take ∷ put there ∷ list) same
shape false describe take put None links listed same = same
shape false describe take put (Some there) links listed same = ap (λ (list : List Need). take ∷ put there ∷ list) same

module _ (state : StateValue) (user : User) (asked : ChannelState) (row : Row) where
  abbrev actor_here : Actor
  actor_here = actor_from state.tree user

  abbrev own : ChannelId
  own = row.channel.id

  abbrev numbers : List ℕ
  numbers = asked.links_add ++ asked.links_remove

  abbrev asks_to_change : TreeNeed → Option Need
  asks_to_change TreeNeed.to_describe = cond (describes asked) (Some (need actor_here WRITE own)) None
  asks_to_change TreeNeed.to_take_away = option_map (λ (there : ChannelId). need actor_here WRITE own) (elsewhere asked.parent row.channel.parent.0)
  asks_to_change TreeNeed.to_put_under = option_map (need actor_here MAKE_CHANNEL) (elsewhere asked.parent row.channel.parent.0)
  asks_to_change TreeNeed.to_link = cond (length (others own numbers) == 0) None (Some (need actor_here LINK_CHANNEL own))
  asks_to_change (TreeNeed.to_link_with other) = cond (is_other own other) (Some (need actor_here LINK_CHANNEL (channel other))) None
  asks_to_change other = None

  linking : Tells (not (length (others own numbers) == 0)) (Links asked row)
  linking =
      subst (λ (b : Bool). Tells (not b) (Links asked row)) (sym (some_left own numbers))
      (twice (list_any (is_other own) numbers)
      (tells_any (is_other own) (λ (other : ℕ). other ≢ own.0) (λ other. tells_not (other == own.0) (tells_eq other own.0)) numbers))
    where
      twice : {Fact : Type 0} (b : Bool) → Tells b Fact → Tells (not (not b)) Fact
      twice true tells = tells
      twice false tells = tells

  tells_to_change : (cause : TreeNeed) → Tells (unmet state (asks_to_change cause)) (LacksToChange state user asked row cause)
  tells_to_change TreeNeed.to_describe = where_so state (describes asked) (need actor_here WRITE own) (describing asked) (lacking state user WRITE own)
  tells_to_change TreeNeed.to_take_away =
      where_moved state asked.parent row.channel.parent.0 (λ there. need actor_here WRITE own) (λ n. MayNot state user 1 own.0) (λ n. lacking state user WRITE own)
  tells_to_change TreeNeed.to_put_under =
      where_moved state asked.parent row.channel.parent.0 (need actor_here MAKE_CHANNEL) (λ n. MayNot state user 64 n) (λ n. lacking state user MAKE_CHANNEL (channel n))
  tells_to_change TreeNeed.to_link =
      unless_so state (length (others own numbers) == 0) (need actor_here LINK_CHANNEL own) linking (lacking state user LINK_CHANNEL own)
  tells_to_change (TreeNeed.to_link_with other) =
      where_so state (is_other own other) (need actor_here LINK_CHANNEL (channel other)) (tells_not (other == own.0) (tells_eq other own.0)) (lacking state user LINK_CHANNEL (channel other))
  tells_to_change other = no_need state

  named_to_change : AreNamed asks_to_change permission (place own.0 (unwrap_or asked.parent 0)) (LacksToChange state user asked row)
  named_to_change TreeNeed.to_describe wanted is _ =
      names (need actor_here WRITE own) wanted 1 own.0 (from_so (describes asked) (need actor_here WRITE own) wanted is) refl refl
  named_to_change TreeNeed.to_take_away wanted is _ =
      names (need actor_here WRITE own) wanted 1 own.0 (from_moved asked.parent row.channel.parent.0 (λ there. need actor_here WRITE own) wanted is) refl refl
  named_to_change TreeNeed.to_put_under wanted is _ =
      names (need actor_here MAKE_CHANNEL (channel (unwrap_or asked.parent 0))) wanted 64 (unwrap_or asked.parent 0)
      (from_moved asked.parent row.channel.parent.0 (need actor_here MAKE_CHANNEL) wanted is) refl refl
  named_to_change TreeNeed.to_link wanted is _ =
      names (need actor_here LINK_CHANNEL own) wanted 128 own.0 (from_unless (length (others own numbers) == 0) (need actor_here LINK_CHANNEL own) wanted is) refl refl
  named_to_change (TreeNeed.to_link_with other) wanted is _ =
      names (need actor_here LINK_CHANNEL (channel other)) wanted 128 other (from_so (is_other own other) (need actor_here LINK_CHANNEL (channel other)) wanted is) refl refl
  named_to_change other wanted is never = absurd never

  each_link : (list : List ℕ) → map (need actor_here LINK_CHANNEL) (others own list) ≡ filter_map asks_to_change (map TreeNeed.to_link_with list)
  each_link [] = refl
  each_link (n ∷ list) = step (is_other own n) (each_link list)
    where
      step : (b : Bool) → map (need actor_here LINK_CHANNEL) (others own list) ≡ filter_map asks_to_change (map TreeNeed.to_link_with list)
          → map (need actor_here LINK_CHANNEL) (map channel (cond b (n ∷ filter (is_other own) list) (filter (is_other own) list)))
          ≡ cons_option (cond b (Some (need actor_here LINK_CHANNEL (channel n))) None) (filter_map asks_to_change (map TreeNeed.to_link_with list))
      step true rest = ap (λ (list : List Need). need actor_here LINK_CHANNEL (channel n) ∷ list) rest
      step false rest = rest

  all_links : needs_to_link actor_here own (others own numbers) ≡ cons_option (asks_to_change TreeNeed.to_link) (filter_map asks_to_change (map TreeNeed.to_link_with numbers))
  all_links = step (others own numbers) (each_link numbers)
    where
      rest : List Need
      rest = filter_map asks_to_change (map TreeNeed.to_link_with numbers)

      step : (ids : List ChannelId) → map (need actor_here LINK_CHANNEL) ids ≡ rest → needs_to_link actor_here own ids ≡ cons_option (cond (length ids == 0) None (Some (need actor_here LINK_CHANNEL own))) rest
      step [] same = same
      step (id ∷ ids) same = one (length (id ∷ ids) == 0) (ne_eqb (length (id ∷ ids)) 0 (λ (e : length (id ∷ ids) ≡ 0). absurd (omega (arith, e))))
        where
          one : (b : Bool) → b ≡ false → cond b [] (need actor_here LINK_CHANNEL own ∷ map (need actor_here LINK_CHANNEL) (id ∷ ids)) ≡ cons_option (cond b None (Some (need actor_here LINK_CHANNEL own))) rest
          one true never = absurd (false≢true (sym never))
          one false _ = ap (λ (list : List Need). need actor_here LINK_CHANNEL own ∷ list) same

pub changes_lem : ChangesAreDeniedForTheFirst
changes_lem state actor user asked row there named found =
    let id : ChannelId = row.channel.id in
    let who : Actor = actor_from state.tree user in
    let command : command_of (State asked) ≡ Command.edit id asked = ap (λ (o : Option ℕ). option_map_or (λ n. Command.edit (channel n) asked) o (Command.make asked)) named in
    let moves : new_parent state.tree id asked ≡ elsewhere asked.parent row.channel.parent.0 =
    ap (λ (o : Option Row). given_unless (λ (there : ChannelId). there.0 == (option_map_or (λ (one : Row). one.channel.parent) o id).0) (option_map channel asked.parent)) found in
    verdict_denied state actor (State asked) (asks_to_change state user asked row) (place id.0 (unwrap_or asked.parent 0)) (LacksToChange state user asked row) (order_of_change asked)
    (ap (needs state.tree (actor_named state actor)) command
    ∙ ap (λ (one : Actor). needs state.tree one (Command.edit id asked)) (actor_is state actor user there)
    ∙ ap (λ (o : Option ChannelId).
    cond (describes asked) (need who WRITE id ∷ []) [] ++ option_map_or (λ there. need who WRITE id ∷ need who MAKE_CHANNEL there ∷ []) o [] ++ needs_to_link who id (linked_others id asked)) moves
    ∙ shape (describes asked) (need who WRITE id) (need who WRITE id) (need who MAKE_CHANNEL) (elsewhere asked.parent row.channel.parent.0) (needs_to_link who id (linked_others id asked))
    (cons_option (asks_to_change state user asked row TreeNeed.to_link) (filter_map (asks_to_change state user asked row) (map TreeNeed.to_link_with (asked.links_add ++ asked.links_remove))))
    (ap (needs_to_link who id) (both_lists id asked.links_add asked.links_remove) ∙ all_links state user asked row))
    (tells_to_change state user asked row) (named_to_change state user asked row)

-- ---- a removal, and a policy

module _ (state : StateValue) (user : User) (n : ℕ) where
  abbrev asks_to_remove : TreeNeed → Option Need
  asks_to_remove TreeNeed.to_remove = Some (need (actor_from state.tree user) WRITE (channel n))
  asks_to_remove other = None

  tells_to_remove : (cause : TreeNeed) → Tells (unmet state (asks_to_remove cause)) (LacksToRemove state user n cause)
  tells_to_remove TreeNeed.to_remove = lacking state user WRITE (channel n)
  tells_to_remove other = no_need state

  named_to_remove : AreNamed asks_to_remove permission (place n n) (LacksToRemove state user n)
  named_to_remove TreeNeed.to_remove wanted is _ =
      names (need (actor_from state.tree user) WRITE (channel n)) wanted 1 n (same_Some (need (actor_from state.tree user) WRITE (channel n)) wanted is) refl refl
  named_to_remove other wanted is never = absurd never

pub removals_lem : RemovalsAreDeniedForTheFirst
removals_lem state actor user asked n there named =
    verdict_denied state actor (Remove asked) (asks_to_remove state user n) (place n n) (LacksToRemove state user n) (TreeNeed.to_remove ∷ [])
    (ap (λ (o : Option ℕ). need (actor_named state actor) WRITE (option_map_or channel o (record { 0 = 0 })) ∷ []) named
    ∙ ap (λ (who : Actor). need who WRITE (channel n) ∷ []) (actor_is state actor user there))
    (tells_to_remove state user n) (named_to_remove state user n)

module _ (state : StateValue) (user : User) (row : Row) where
  abbrev ruling : Need
  ruling = record {
    first = way (actor_from state.tree user) WRITE row.channel.id;
    others = way (actor_from state.tree user) WRITE row.channel.parent ∷ [];
  }

  abbrev asks_to_rule : TreeNeed → Option Need
  asks_to_rule TreeNeed.to_rule = Some ruling
  asks_to_rule other = None

  tells_to_rule : (cause : TreeNeed) → Tells (unmet state (asks_to_rule cause)) (LacksToRule state user row cause)
  tells_to_rule TreeNeed.to_rule =
      two_ways (is_open state (way (actor_from state.tree user) WRITE row.channel.id)) (is_open state (way (actor_from state.tree user) WRITE row.channel.parent))
      (lacks state user user.tokens WRITE row.channel.id) (lacks state user user.tokens WRITE row.channel.parent)
  tells_to_rule other = no_need state

  named_to_rule : AreNamed asks_to_rule permission (place row.channel.id.0 row.channel.id.0) (LacksToRule state user row)
  named_to_rule TreeNeed.to_rule wanted is _ = names ruling wanted 1 row.channel.id.0 (same_Some ruling wanted is) refl refl
  named_to_rule other wanted is never = absurd never

pub policies_lem : PoliciesAreDeniedForTheFirst
policies_lem state actor user asked row there named found =
    let id : ChannelId = row.channel.id in
    let at : option_map_or channel asked.channel_id (record { 0 = 0 }) ≡ id = ap (λ (o : Option ℕ). option_map_or channel o (record { 0 = 0 })) named in
    verdict_denied state actor (Acl asked) (asks_to_rule state user row) (place id.0 id.0) (LacksToRule state user row) (TreeNeed.to_rule ∷ [])
    (either (is_query asked) (option_map_or channel asked.channel_id (record { 0 = 0 }))
    ∙ ap (λ (one : ChannelId). need_to_rule state.tree (actor_named state actor) one ∷ []) at
    ∙ ap (λ (who : Actor). need_to_rule state.tree who id ∷ []) (actor_is state actor user there)
    ∙ ap (λ (o : Option Row). record { first = way (actor_from state.tree user) WRITE id; others = way (actor_from state.tree user) WRITE (option_map_or (λ (one : Row). one.channel.parent) o id) ∷ [] } ∷ []) found)
    (tells_to_rule state user row) (named_to_rule state user row)
  where
    either : (b : Bool) (one : ChannelId) → needs state.tree (actor_named state actor) (cond b (Command.query one) (Command.set one asked)) ≡ need_to_rule state.tree (actor_named state actor) one ∷ []
    either true one = refl
    either false one = refl
