-- What an accepted command itself says is sent in one frame: its own message was not too long.
use Rattle.mum_session.proofs.Common.{◌≡◌, ℕ, ◌+◌, ◌≤◌, ◌==◌, Bool, true, false, List, [], ◌∷◌, length, map, Option, Some, None, Result, Ok, Err, IfOk, refl, ap, subst, sym, arith, AllByRecursion, option_map_or, ltb-false, ChannelId, SessionId, Optional, Required, Repeated, Layout, Nothing, Field, Blocks, Values, bool, each_message, items, layout, parts, row_items, spelled, string, uint32, written, text_message, TextMessage, user_remove, UserRemove, Actor, Verdict, Answer, granted_where_there, StateValue, channel_or_root, text_or_empty, first_lack, first_standing, TreeMessage, COMMAND_LIMIT, tree_verdict, all_off, UserMessage, Join, Kick, Target, Query, Leave, channels, command_of, payload_of, session_numbered, session_or, limits, limits_of_login, is_ban, needs, answer_frame, answer_to_query, edit_to_kick, edit_to_tell, outcome, reasons, actor_for, heard_verdict, user_verdict, numbers, said_unless, user_kicked, FitsFrame, IsWithinFrame, text_payload, user_gone_payload, session_numbers, text_told, row-few, written-append, Asked, edits_of, verdict}
use Rattle.mum_rules_user.specs.declared.message.UserMessage.TheVariants.{User, Text}
use Rattle.mum_session.proofs.Channels.{tree_holds, unless}
use Rattle.mum_session.specs.declared.command.Asked.TheVariants as commands

-- ---- a message takes what its fields take

abbrev sizes : (fields : Layout) → Values fields → ℕ
sizes Nothing values = 0
sizes (Field label kind number others) values = length (written (row_items label kind number values.0)) + sizes others values.1
sizes (Blocks inside number others) values = length (written (each_message (items inside) number values.0)) + sizes others values.1

all_sizes : (fields : Layout) (values : Values fields) → length (written (items fields values)) ≡ sizes fields values
all_sizes Nothing values = refl
all_sizes (Field label kind number others) values =
    omega (arith, written-append (row_items label kind number values.0) (items others values.1), all_sizes others values.1)
all_sizes (Blocks inside number others) values =
    omega (arith, written-append (each_message (items inside) number values.0) (items others values.1), all_sizes others values.1)

abbrev text_size : ℕ → Option (List ℕ) → ℕ
text_size number text = length (written (row_items Required string number text))

abbrev list_size : ℕ → List ℕ → ℕ
list_size number list = length (written (row_items Repeated uint32 number list))

-- ---- a text

same_sessions : (sent : List ℕ) → session_numbers (map session_numbered sent) ≡ sent
same_sessions [] = refl
same_sessions (n ∷ sent) = ap (λ (rest : List ℕ). n ∷ rest) (same_sessions sent)

same_channels : (sent : List ℕ) → numbers (channels sent) ≡ sent
same_channels [] = refl
same_channels (n ∷ sent) = ap (λ (rest : List ℕ). n ∷ rest) (same_channels sent)

message_few : (sent : Option (List ℕ)) → text_size 5 (Some (text_or_empty sent)) ≤ text_size 5 sent + 20
message_few None = let few : text_size 5 (Some []) ≤ 20 + 0 = row-few Required string 5 (Some []) in omega arith
message_few (Some text) = omega arith

text_within : (sent told : TextMessage) → told.session ≡ sent.session → told.channel_id ≡ sent.channel_id → told.tree_id ≡ sent.tree_id
    → text_size 5 told.message ≤ text_size 5 sent.message + 20 → length (spelled text_message sent) ≤ COMMAND_LIMIT → IsWithinFrame (text_payload told)
unfolding text_payload
text_within sent told sessions rooms trees message short =
    let was : length (spelled text_message sent) ≡ sizes (layout text_message) (parts text_message sent) = all_sizes (layout text_message) (parts text_message sent) in
    let now : length (spelled text_message told) ≡ sizes (layout text_message) (parts text_message told) = all_sizes (layout text_message) (parts text_message told) in
    let who : length (written (row_items Optional uint32 1 told.actor)) ≤ 20 = row-few Optional uint32 1 told.actor in
    let same_2 : list_size 2 told.session ≡ list_size 2 sent.session = ap (list_size 2) sessions in
    let same_3 : list_size 3 told.channel_id ≡ list_size 3 sent.channel_id = ap (list_size 3) rooms in
    let same_4 : list_size 4 told.tree_id ≡ list_size 4 sent.tree_id = ap (list_size 4) trees in
    omega arith

text_fits : (actor : SessionId) (sent : TextMessage) → length (spelled text_message sent) ≤ COMMAND_LIMIT → FitsFrame (edit_to_tell actor sent)
text_fits actor sent short =
    text_within sent (text_told actor (map session_numbered sent.session) (channels sent.channel_id) (channels sent.tree_id) (text_or_empty sent.message))
    (same_sessions sent.session) (same_channels sent.channel_id) (same_channels sent.tree_id) (message_few sent.message) short

-- ---- who is kicked

abbrev reason_size : Option (List ℕ) → ℕ
reason_size reason = length (written (row_items Optional string 3 reason))

reason_few : (sent : Option (List ℕ)) → reason_size (said_unless (length (text_or_empty sent) == 0) (text_or_empty sent)) ≤ reason_size sent
reason_few None = omega arith
reason_few (Some text) = by_size (length text == 0)
  where
    by_size : (empty : Bool) → reason_size (said_unless empty text) ≤ reason_size (Some text)
    by_size true = omega arith
    by_size false = omega arith

kick_within : (sent told : UserRemove) → reason_size told.reason ≤ reason_size sent.reason → length (spelled user_remove sent) ≤ COMMAND_LIMIT → IsWithinFrame (user_gone_payload told)
unfolding user_gone_payload
kick_within sent told reason short =
    let was : length (spelled user_remove sent) ≡ sizes (layout user_remove) (parts user_remove sent) = all_sizes (layout user_remove) (parts user_remove sent) in
    let now : length (spelled user_remove told) ≡ sizes (layout user_remove) (parts user_remove told) = all_sizes (layout user_remove) (parts user_remove told) in
    let whom : length (written (row_items Required uint32 1 told.session)) ≤ 20 = row-few Required uint32 1 told.session in
    let who : length (written (row_items Optional uint32 2 told.actor)) ≤ 20 = row-few Optional uint32 2 told.actor in
    let ban : length (written (row_items Optional bool 4 told.ban)) ≤ 20 = row-few Optional bool 4 told.ban in
    omega arith

kick_fits : (actor session : SessionId) (sent : UserRemove) → length (spelled user_remove sent) ≤ COMMAND_LIMIT → FitsFrame (edit_to_kick actor session sent)
kick_fits actor session sent short =
    kick_within sent (user_kicked session actor (text_or_empty sent.reason) (is_ban sent)) (reason_few sent.reason) short

-- ---- what is decided

abbrev IsTold : Verdict → Type 0
IsTold decided = AllByRecursion FitsFrame (edits_of decided)

answer_told : (state : StateValue) (who : Actor) (id : ChannelId) → IsTold (answer_to_query state who id)
answer_told state who id = unless IsTold (λ held. Answer (answer_frame id held)) (granted_where_there state who id) _ (λ held. tt) tt

outcome_told : (state : StateValue) (who : Actor) (actor : SessionId) (message : UserMessage) → length (payload_of message) ≤ COMMAND_LIMIT → IsTold (outcome state who actor (command_of actor message))
unfolding payload_of
outcome_told state who actor (Join message version) short = (tt, tt)
outcome_told state who actor (User message) short = (tt, tt)
outcome_told state who actor (Kick message) short = (kick_fits actor (session_or actor message.session) message short, tt)
outcome_told state who actor (Text message) short = (text_fits actor message short, tt)
outcome_told state who actor (Target message) short = (tt, tt)
outcome_told state who actor (Query message) short = answer_told state who (channel_or_root message.channel_id)
outcome_told state who actor Leave short = (tt, tt)

heard_told : (state : StateValue) (session : Option SessionId) (message : UserMessage) → length (payload_of message) ≤ COMMAND_LIMIT → IsTold (heard_verdict state session message)
heard_told state (Some actor) message short =
    unless IsTold _ (first_lack state (needs state (actor_for state actor message) actor (command_of actor message))) _ (λ lack. tt)
    (unless IsTold _ (first_standing (limits state actor (command_of actor message))) _ (λ kind. tt)
    (outcome_told state (actor_for state actor message) actor message short))
heard_told state None (Join message version) short =
    unless IsTold _ (first_standing (limits_of_login state version message)) _ (λ kind. tt) (tt, tt)
heard_told state None (User message) short = tt
heard_told state None (Kick message) short = tt
heard_told state None (Text message) short = tt
heard_told state None (Target message) short = tt
heard_told state None (Query message) short = tt
heard_told state None Leave short = tt

unless_first : {X : Type 0} (f : X → Verdict) (first : Option X) (decided : Verdict) → ((x : X) → IsTold (f x)) → (first ≡ None → IsTold decided) → IsTold (option_map_or f first decided)
unless_first f None decided each rest = rest refl
unless_first f (Some x) decided each rest = each x

user_told : (state : StateValue) (session : Option SessionId) (message : UserMessage) → IsTold (user_verdict state session message)
user_told state session message =
    unless_first _ (first_standing (reasons state session message)) _ (λ reason. tt) (λ none.
    let off = all_off (reasons state session message) none in
    heard_told state session message (ltb-false COMMAND_LIMIT (length (payload_of message)) off.1.1.0))

tree_told : (state : StateValue) (session : SessionId) (message : TreeMessage) → IsTold (tree_verdict state session message)
tree_told = tree_holds IsTold (record {
  ignored = λ why. tt;
  lacks = λ perm channel. tt;
  refused = λ kind. tt;
  answered = λ frame. tt;
  made = λ id parent name temporary info maker. (tt, tt);
  changed = λ id actor name parent description position max_users links_add links_remove. (tt, tt);
  removed = λ id actor. (tt, tt);
  ruled = λ channel actor policy. (tt, tt);
})

verdict_told : (state : StateValue) (session : Option SessionId) (command : Asked) → IsTold (verdict state session command)
unfolding verdict
verdict_told state None (commands.Tree message) = tt
verdict_told state (Some session) (commands.Tree message) = tree_told state session message
verdict_told state None (commands.User message) = user_told state None message
verdict_told state (Some session) (commands.User message) = user_told state (Some session) message

-- what is decided, where memory is there, is the verdict
pub framed_so : {E : Type 0} (state : StateValue) (session : Option SessionId) (command : Asked) (answer : Result Verdict E)
    → IfOk answer (λ decided. decided ≡ verdict state session command) → IfOk answer (λ decided. AllByRecursion FitsFrame (edits_of decided))
framed_so state session command (Ok decided) is = subst IsTold (sym is) (verdict_told state session command)
framed_so state session command (Err error) is = tt
