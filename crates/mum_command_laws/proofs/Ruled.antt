-- What an accepted or an answered message on channels shows of the permissions of whoever sent it.
use Rattle.mum_command_laws.proofs.Common.{◌≡◌, ℕ, ◌||◌, Bool, true, false, cond, List, [], ◌∷◌, ◌++◌, length, map, Option, Some, None, refl, ap, sym, ◌∙◌, subst, arith, All, is_some, option_map_or, ne_eqb, not-false, All-head, All-nil, All-tail, All-weaker, reason_code, ChannelId, SessionId, DenyType, Reason, NotThere, LINK_CHANNEL, MAKE_CHANNEL, MAKE_TEMP_CHANNEL, WRITE, Frame, AclMessage, ChannelState, Actor, ChannelPolicy, parent_of, ChannelInfo, is_empty, StateValue, policy_of, Edit, EditChannel, MakeChannel, RemoveChannel, Verdict, Accepted, Answer, Ignored, Command, channel, channel_or_root, command_of, describes, given_unless, is_named_there, is_query, linked_others, names_there, new_name, new_parent, parent_of_new, first_lack, first_standing, is_open, need, way, AllMet, needs_of, limits, making, needs, needs_to_describe, needs_to_link, needs_to_move, answer_frame, edit_to_change, edit_to_make, outcome, actor_named, tree_verdict, TreeMessage, Acl, Remove, State, Lack, all_off, outcome_at, all_met_where, told, LinkersLink, MakersMake, WritersDescribe, WritersMove, WritersReadPolicies, WritersRemove}
use Rattle.mum_rules_tree.specs.{Asked.others, Reasons.reasons}
use Rattle.mum_command_laws.proofs.MetNeeds.{each_open, either_open, first_met, one_open, others_met, rest_met}

-- ---- what is accepted is what its command comes to, and each of its needs is met

accepted : (state : StateValue) (actor : SessionId) (message : TreeMessage) (edit : Edit) → tree_verdict state actor message ≡ Accepted edit
    → AllMet state (needs_of state actor message) × (outcome state actor (command_of message) ≡ Accepted edit)
accepted state actor message edit is =
    let command = command_of message in
    let (met, rest) = outcome_at (first_standing (reasons state actor message)) (first_lack state (needs_of state actor message))
    (first_standing (limits state command)) (outcome state actor command) edit is in
    (all_met_where state (needs_of state actor message) met, rest)

query_edits_nothing : (id : ChannelId) (policy : Option ChannelPolicy) (edit : Edit)
    → option_map_or (λ p. Answer (answer_frame id p)) policy (Ignored (reason_code NotThere)) ≡ Accepted edit → ⊥
query_edits_nothing id None edit is = cc
query_edits_nothing id (Some policy) edit is = cc

same_edit : (one other : Edit) → Accepted one ≡ Accepted other → one ≡ other
same_edit one other is = cc

-- ---- making

abbrev parent_made : Edit → ChannelId
parent_made (MakeChannel id parent name temporary info maker) = parent
parent_made edit = record { 0 = 0 }

abbrev is_made_temporary : Edit → Bool
is_made_temporary (MakeChannel id parent name temporary info maker) = temporary
is_made_temporary edit = false

abbrev maker_of : Edit → Option SessionId
maker_of (MakeChannel id parent name temporary info maker) = maker
maker_of edit = None

made_by : (state : StateValue) (who : Actor) (actor : SessionId) (command : Command) (id parent : ChannelId) (name : List ℕ) (temporary : Bool)
    (info : ChannelInfo) (maker : Option SessionId) → AllMet state (needs state.tree who command)
    → outcome state actor command ≡ Accepted (MakeChannel id parent name temporary info maker)
    → (maker ≡ Some actor) × (is_open state (way who (cond temporary MAKE_TEMP_CHANNEL MAKE_CHANNEL) parent) ≡ true)
made_by state who actor (Command.make message) id parent name temporary info maker met is =
    let same = same_edit (edit_to_make state.tree actor message) (MakeChannel id parent name temporary info maker) is in
    let open_there : (Bool → ChannelId → Bool) = λ t p. is_open state (way who (cond t MAKE_TEMP_CHANNEL MAKE_CHANNEL) p) in (
      sym (ap maker_of same),
      sym (ap (λ (e : Edit). open_there (is_made_temporary e) (parent_made e)) same)
          ∙ one_open state who (making message) (parent_of_new message) [] met,
    )
made_by state who actor (Command.edit other message) id parent name temporary info maker met is = cc
made_by state who actor (Command.remove other) id parent name temporary info maker met is = cc
made_by state who actor (Command.query other) id parent name temporary info maker met is =
    absurd (query_edits_nothing other (policy_of state other) (MakeChannel id parent name temporary info maker) is)
made_by state who actor (Command.set other message) id parent name temporary info maker met is = cc

pub makers_make_lem : MakersMake
makers_make_lem state actor message id parent name temporary info maker is =
    let (met, rest) = accepted state actor message (MakeChannel id parent name temporary info maker) is in
    made_by state (actor_named state actor) actor (command_of message) id parent name temporary info maker met rest

-- ---- removing

removed_by : (state : StateValue) (who : Actor) (actor : SessionId) (command : Command) (id : ChannelId) (by : SessionId)
    → AllMet state (needs state.tree who command) → outcome state actor command ≡ Accepted (RemoveChannel id by)
    → (by ≡ actor) × (is_open state (way who WRITE id) ≡ true)
removed_by state who actor (Command.make message) id by met is = cc
removed_by state who actor (Command.edit other message) id by met is = cc
removed_by state who actor (Command.remove other) id by met is =
    let from : actor ≡ by = cc in
    let same : id ≡ other = cc in
    (sym from, ap (λ (c : ChannelId). is_open state (way who WRITE c)) same ∙ one_open state who WRITE other [] met)
removed_by state who actor (Command.query other) id by met is =
    absurd (query_edits_nothing other (policy_of state other) (RemoveChannel id by) is)
removed_by state who actor (Command.set other message) id by met is = cc

pub writers_remove_lem : WritersRemove
writers_remove_lem state actor message id by is =
    let (met, rest) = accepted state actor message (RemoveChannel id by) is in
    removed_by state (actor_named state actor) actor (command_of message) id by met rest

-- ---- changing

abbrev channel_edited : Edit → ChannelId
channel_edited (EditChannel id by name parent description position max_users add remove) = id
channel_edited edit = record { 0 = 0 }

abbrev edited_by : Edit → Option SessionId
edited_by (EditChannel id by name parent description position max_users add remove) = by
edited_by edit = None

abbrev parent_given : Edit → Option ChannelId
parent_given (EditChannel id by name parent description position max_users add remove) = parent
parent_given edit = None

abbrev links_given : Edit → List ChannelId
links_given (EditChannel id by name parent description position max_users add remove) = add ++ remove
links_given edit = []

-- the edit names what describes a channel
abbrev is_described : Edit → Bool
is_described (EditChannel id by name parent description position max_users add remove) =
    is_some name || is_some description || is_some position || is_some max_users
is_described edit = false

-- the edit is what a ChannelState for this channel asks for, and each of its needs is met
record Changes (state : StateValue) (who : Actor) (actor : SessionId) (edit : Edit) : Type 0 where
  id : ChannelId
  message : ChannelState
  same : edit_to_change state.tree actor id message ≡ edit
  met : AllMet state (needs state.tree who (Command.edit id message))

abbrev is_change : Edit → Bool
is_change (EditChannel id by name parent description position max_users add remove) = true
is_change edit = false

changes : (state : StateValue) (who : Actor) (actor : SessionId) (command : Command) (edit : Edit) → is_change edit ≡ true
    → AllMet state (needs state.tree who command) → outcome state actor command ≡ Accepted edit → Changes state who actor edit
changes state who actor (Command.make message) edit change met is =
    let same = same_edit (edit_to_make state.tree actor message) edit is in
    let no : true ≡ false = sym change ∙ ap is_change (sym same) in cc
changes state who actor (Command.edit id message) edit change met is =
    record { id = id; message = message; same = same_edit (edit_to_change state.tree actor id message) edit is; met = met }
changes state who actor (Command.remove id) edit change met is =
    let same = same_edit (RemoveChannel id actor) edit is in
    let no : true ≡ false = sym change ∙ ap is_change (sym same) in cc
changes state who actor (Command.query id) edit change met is =
    absurd (query_edits_nothing id (policy_of state id) edit is)
changes state who actor (Command.set id message) edit change met is =
    let same : edit ≡ _ = sym (same_edit _ edit is) in
    let no : true ≡ false = sym change ∙ ap is_change same in cc

changed : (state : StateValue) (actor : SessionId) (message : TreeMessage) (edit : Edit) → is_change edit ≡ true
    → tree_verdict state actor message ≡ Accepted edit → Changes state (actor_named state actor) actor edit
changed state actor message edit change is =
    let (met, rest) = accepted state actor message edit is in
    changes state (actor_named state actor) actor (command_of message) edit change met rest

given_some : {X : Type 0} (test : X → Bool) (value : Option X) → is_some (given_unless test value) ≡ true → is_some value ≡ true
given_some test None given = given
given_some test (Some x) given = refl

first_weaker : (a b others more last : Bool) → (a ≡ true → b ≡ true) → (a || others || more || last) ≡ true → (b || others || more || last) ≡ true
first_weaker true b others more last weaker some = ap (λ (x : Bool). x || others || more || last) (weaker refl)
first_weaker false true others more last weaker some = refl
first_weaker false false others more last weaker some = some

module _ (state : StateValue) (who : Actor) (id : ChannelId) (message : ChannelState) (met : AllMet state (needs state.tree who (Command.edit id message))) where
  describing : AllMet state (needs_to_describe who id message)
  describing =
      first_met state (needs_to_describe who id message) (needs_to_move who id (new_parent state.tree id message))
      (first_met state (needs_to_describe who id message ++ needs_to_move who id (new_parent state.tree id message))
      (needs_to_link who id (linked_others id message)) met)

  moving : AllMet state (needs_to_move who id (new_parent state.tree id message))
  moving =
      others_met state (needs_to_describe who id message) (needs_to_move who id (new_parent state.tree id message))
      (first_met state (needs_to_describe who id message ++ needs_to_move who id (new_parent state.tree id message))
      (needs_to_link who id (linked_others id message)) met)

  linking : AllMet state (needs_to_link who id (linked_others id message))
  linking =
      others_met state (needs_to_describe who id message ++ needs_to_move who id (new_parent state.tree id message))
      (needs_to_link who id (linked_others id message)) met

  written : describes message ≡ true → is_open state (way who WRITE id) ≡ true
  written some =
      one_open state who WRITE id [] (subst (λ (b : Bool). AllMet state (cond b (need who WRITE id ∷ []) [])) some describing)

  moved : (there : ChannelId) → new_parent state.tree id message ≡ Some there
      → (is_open state (way who WRITE id) ≡ true) × (is_open state (way who MAKE_CHANNEL there) ≡ true)
  moved there new =
      let both = subst (λ (o : Option ChannelId). AllMet state (needs_to_move who id o)) new moving in (
        one_open state who WRITE id (need who MAKE_CHANNEL there ∷ []) both,
        one_open state who MAKE_CHANNEL there [] (rest_met state (need who WRITE id) (need who MAKE_CHANNEL there ∷ []) both),
      )

not_empty : {X : Type 0} (x : X) (xs : List X) → is_empty (x ∷ xs) ≡ false
not_empty x xs = ne_eqb (length (x ∷ xs)) 0 (λ e. absurd (omega arith))

linked : (state : StateValue) (who : Actor) (id : ChannelId) (links : List ChannelId) → AllMet state (needs_to_link who id links)
    → All (λ other. (is_open state (way who LINK_CHANNEL id) ≡ true) × (is_open state (way who LINK_CHANNEL other) ≡ true)) links
linked state who id [] met =
    All-nil (λ other. (is_open state (way who LINK_CHANNEL id) ≡ true) × (is_open state (way who LINK_CHANNEL other) ≡ true))
linked state who id (link ∷ links) met =
    let all = each_open state who LINK_CHANNEL (id ∷ link ∷ links)
    (subst (λ (b : Bool). AllMet state (cond b [] (map (need who LINK_CHANNEL) (id ∷ link ∷ links)))) (not_empty link links) met) in
    let here = All-head (λ c. is_open state (way who LINK_CHANNEL c) ≡ true) id (link ∷ links) all in
    All-weaker (λ c. is_open state (way who LINK_CHANNEL c) ≡ true)
    (λ c. (is_open state (way who LINK_CHANNEL id) ≡ true) × (is_open state (way who LINK_CHANNEL c) ≡ true))
    (λ c there. (here, there)) (link ∷ links) (All-tail (λ c. is_open state (way who LINK_CHANNEL c) ≡ true) id (link ∷ links) all)

pub writers_describe_lem : WritersDescribe
writers_describe_lem state actor message id by name parent description position max_users add remove is some =
    let edit = EditChannel id by name parent description position max_users add remove in
    let change = changed state actor message edit refl is in
    let asked = change.message in
    let given : is_described (edit_to_change state.tree actor change.id asked) ≡ true = ap is_described change.same ∙ some in
    let described : describes asked ≡ true =
    first_weaker (is_some (new_name state.tree change.id asked)) (is_some asked.name) (is_some asked.description) (is_some asked.position) (is_some asked.max_users)
    (given_some _ asked.name) given in (
      sym (ap edited_by change.same),
      sym (ap (λ (e : Edit). is_open state (way (actor_named state actor) WRITE (channel_edited e))) change.same)
          ∙ written state (actor_named state actor) change.id asked change.met described,
    )

pub writers_move_lem : WritersMove
writers_move_lem state actor message id there by name description position max_users add remove is =
    let edit = EditChannel id by name (Some there) description position max_users add remove in
    let change = changed state actor message edit refl is in
    let both = moved state (actor_named state actor) change.id change.message change.met there (ap parent_given change.same) in (
      sym (ap edited_by change.same),
      sym (ap (λ (e : Edit). is_open state (way (actor_named state actor) WRITE (channel_edited e))) change.same) ∙ both.0,
      both.1,
    )

pub linkers_link_lem : LinkersLink
linkers_link_lem state actor message id by name parent description position max_users add remove is =
    let edit = EditChannel id by name parent description position max_users add remove in
    let change = changed state actor message edit refl is in
    let who = actor_named state actor in (
      sym (ap edited_by change.same),
      subst (λ (e : Edit). All (λ other. (is_open state (way who LINK_CHANNEL (channel_edited e)) ≡ true) × (is_open state (way who LINK_CHANNEL other) ≡ true)) (links_given e))
          change.same
          (linked state who change.id (linked_others change.id change.message) (linking state who change.id change.message change.met)),
    )

-- ---- reading

-- what is answered is what its command comes to, no reason is against it, and each of its needs is met
answered_at : (reason : Option Reason) (lack : Option Lack) (limit : Option DenyType) (rest : Verdict) (frame : Frame)
    → told reason lack limit rest ≡ Answer frame → (reason ≡ None) × (lack ≡ None) × (rest ≡ Answer frame)
answered_at (Some reason) lack limit rest frame is = cc
answered_at None (Some lack) limit rest frame is = cc
answered_at None None (Some limit) rest frame is = cc
answered_at None None None rest frame is = (refl, refl, is)

no_answer : (state : StateValue) (actor : SessionId) (message : ChannelState) (number : Option ℕ) (frame : Frame)
    → outcome state actor (option_map_or (λ n. Command.edit (channel n) message) number (Command.make message)) ≡ Answer frame → ⊥
no_answer state actor message None frame is = cc
no_answer state actor message (Some number) frame is = cc

policy_read : (state : StateValue) (id : ChannelId) (policy : Option ChannelPolicy) (frame : Frame)
    → option_map_or (λ p. Answer (answer_frame id p)) policy (Ignored (reason_code NotThere)) ≡ Answer frame
    → (found : ChannelPolicy) × (policy ≡ Some found) × (frame ≡ answer_frame id found)
policy_read state id None frame is = cc
policy_read state id (Some policy) frame is = (policy, refl, cc)

-- the message asks, and the frame answers
record Reads (state : StateValue) (who : Actor) (message : AclMessage) (frame : Frame) : Type 0 where
  number : ℕ
  policy : ChannelPolicy
  named : message.channel_id ≡ Some number
  found : policy_of state (channel number) ≡ Some policy
  is : frame ≡ answer_frame (channel number) policy
  permitted : (is_open state (way who WRITE (channel number)) || is_open state (way who WRITE (parent_of state.tree (channel number)))) ≡ true

reads : (state : StateValue) (who : Actor) (actor : SessionId) (message : AclMessage) (number : Option ℕ) (query : Bool) (frame : Frame)
    → message.channel_id ≡ number → is_named_there state.tree number ≡ true
    → AllMet state (needs state.tree who (cond query (Command.query (channel_or_root number)) (Command.set (channel_or_root number) message)))
    → outcome state actor (cond query (Command.query (channel_or_root number)) (Command.set (channel_or_root number) message)) ≡ Answer frame
    → Reads state who message frame
reads state who actor message None query frame same named met is = cc
reads state who actor message (Some number) false frame same named met is = cc
reads state who actor message (Some number) true frame same named met is =
    let (policy, found, answer) = policy_read state (channel number) (policy_of state (channel number)) frame is in record {
      number = number;
      policy = policy;
      named = same;
      found = found;
      is = answer;
      permitted = either_open state (way who WRITE (channel number)) (way who WRITE (parent_of state.tree (channel number))) [] met;
    }

pub writers_read_policies_lem : WritersReadPolicies
writers_read_policies_lem state actor message frame is =
    let command = command_of message in
    let (none, met, rest) = answered_at (first_standing (reasons state actor message)) (first_lack state (needs_of state actor message))
    (first_standing (limits state command)) (outcome state actor command) frame is in
    by_kind message (not-false (names_there state.tree message) (all_off (reasons state actor message) none).1.1.0)
    (all_met_where state (needs_of state actor message) met) rest
  where
    by_kind : (asked : TreeMessage) → names_there state.tree asked ≡ true → AllMet state (needs_of state actor asked)
        → outcome state actor (command_of asked) ≡ Answer frame
        → (query : AclMessage) × (number : ℕ) × (policy : ChannelPolicy)
        × (asked ≡ Acl query) × (query.channel_id ≡ Some number)
        × (policy_of state (channel number) ≡ Some policy) × (frame ≡ answer_frame (channel number) policy)
        × ((is_open state (way (actor_named state actor) WRITE (channel number)) || is_open state (way (actor_named state actor) WRITE (parent_of state.tree (channel number)))) ≡ true)
    by_kind (State asked) named met rest = absurd (no_answer state actor asked asked.channel_id frame rest)
    by_kind (Remove asked) named met rest = cc
    by_kind (Acl asked) named met rest =
        let read = reads state (actor_named state actor) actor asked asked.channel_id (is_query asked) frame refl named met rest in
        (asked, read.number, read.policy, refl, read.named, read.found, read.is, read.permitted)
