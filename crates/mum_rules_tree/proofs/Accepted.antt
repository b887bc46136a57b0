-- An accepted command on channels is an edit that fits.
use Rattle.mum_rules_tree.proofs.Common.{◌≡◌, ℕ, ◌+◌, ◌-◌, ◌^◌, ◌&&◌, ◌||◌, Bool, true, false, not, cond, leb, ltb, List, [], ◌∷◌, ◌++◌, length, map, Option, Some, None, refl, arith, ap, sym, ◌∙◌, subst, ⊎_elim, filter, list_all, list_any, is_none, option_map_or, option_or, unwrap_or, bit_and, and_from, and_parts, cases_Bool, eq-eqb, leb-false, lt-ltb, not-false, not_from_false, or_parts, list_all-append, and_assoc, and_comm, ChannelId, SessionId, ROOT, ALL, AclMessage, AclLine, ChannelState, ChannelPolicy, Group, is_large_policy, Actor, holds, PATH_LIMIT, TreeFault, NoChannel, SameName, UnderItself, Nesting, Count, RootFixed, TemporaryParent, LinkCount, Change, fault_of_edit, name_after, overlinks, parent_after, renames_or_moves, change_names_there, fault_of_add, fault_of_remove, fault_of_placement, is_full, is_below, is_root, is_taken, is_temporary, is_there, nests, path, TreeState, next_number, has_number, EDIT_LIMIT, Edit, RemoveChannel, SetAcl, Answer, Ignored, fits, gives_right_numbers, holds_of_given, is_countable, sets_properly, given, named_account, named_channels, named_sessions, IsProper, is_name, is_sound_entry, is_text, StateValue, has_account, policy_of, TreeMessage, State, Remove, Acl, Command, change_asked, channel, channel_or_root, command_of, is_named_there, is_number_there, is_query, new_parent, others, parent_of_new, text_or_empty, names_there_in, reason_code, NotThere, FitsWhereAccepted, first_lack, first_standing, limits, limits_of_change, limits_of_new, limits_of_policy, limits_of_removal, new_number, needs, answer_frame, edit_to_change, edit_to_make, outcome, entry_asked, is_inherited, policy_asked, is_gone, reasons, takes_no_edits, command_verdict, tree_verdict, actor_named}
use Rattle.mum_state.specs.Named.{names_there}
use Rattle.mum_rules_tree.proofs.{Cleared.all_off, Cleared.fits_unless, Named.AreThere, Named.are_there, Named.change_there, Named.given_there, Named.some_found, Parted.parted}

-- ---- the actor is there, and edits are taken

-- what no reason to ignore a message leaves
record IsHeard (state : StateValue) (actor : SessionId) : Type 0 where
  here : list_any (has_number actor) state.roster.sessions ≡ true
  room : ltb state.counts.revision EDIT_LIMIT ≡ true

heard : (state : StateValue) (actor : SessionId) → (is_gone state actor || takes_no_edits state) ≡ false → IsHeard state actor
heard state actor not_gone =
    let (here, room) = or_parts (is_gone state actor) (takes_no_edits state) not_gone in
    record {
      here = some_found (has_number actor) state.roster.sessions here;
      room = lt-ltb state.counts.revision EDIT_LIMIT (leb-false EDIT_LIMIT state.counts.revision room);
    }

-- ---- the parts of an edit that fits

pub named_from : (state : StateValue) (edit : Edit) → list_all (λ session. list_any (has_number session) state.roster.sessions) (named_sessions edit) ≡ true → list_all (is_there state.tree.channels) (named_channels edit) ≡ true → option_map_or (has_account state) (named_account edit) true ≡ true → names_there state edit ≡ true
named_from state edit sessions channels account =
    let a = list_all (λ session. list_any (has_number session) state.roster.sessions) (named_sessions edit) in
    let b = list_all (is_there state.tree.channels) (named_channels edit) in
    and_from (a && b) (option_map_or (has_account state) (named_account edit) true) (and_from a b sessions channels) account

pub fits_from : (state : StateValue) (edit : Edit) → names_there state edit ≡ true → gives_right_numbers state edit ≡ true → sets_properly state edit ≡ true → is_countable state edit ≡ true → fits state edit ≡ true
fits_from state edit named numbers sound counted =
    let a = names_there state edit in
    let b = gives_right_numbers state edit in
    let c = sets_properly state edit in
    and_from (a && b && c) (is_countable state edit) (and_from (a && b) c (and_from a b named numbers) sound) counted

-- an edit that has an actor, and no other session or account
by_actor : (state : StateValue) (actor : SessionId) → IsHeard state actor → list_all (λ session. list_any (has_number session) state.roster.sessions) (actor ∷ []) ≡ true
by_actor state actor heard = and_from (list_any (has_number actor) state.roster.sessions) true heard.here refl

-- ---- a new channel

add_allowed : (tree : TreeState) (id parent : ChannelId) (name : List ℕ) → is_there tree.channels parent ≡ true → is_taken tree.channels parent id name ≡ false → is_temporary tree.channels parent ≡ false → leb PATH_LIMIT (length (path tree.channels parent)) ≡ false → is_full tree ≡ false → fault_of_add tree id parent name ≡ None
add_allowed tree id parent name there free lasting shallow room =
    let full : Option TreeFault = cond (is_full tree) (Some Count) None in
    let deep : Option TreeFault = cond (leb PATH_LIMIT (length (path tree.channels parent))) (Some Nesting) full in
    let temporary : Option TreeFault = cond (is_temporary tree.channels parent) (Some TemporaryParent) deep in
    let taken : Option TreeFault = cond (is_taken tree.channels parent id name) (Some SameName) temporary in
    ap (λ (b : Bool). cond (not b) (Some NoChannel) taken) there
    ∙ ap (λ (b : Bool). cond b (Some SameName) temporary) free
    ∙ ap (λ (b : Bool). cond b (Some TemporaryParent) deep) lasting
    ∙ ap (λ (b : Bool). cond b (Some Nesting) full) shallow
    ∙ ap (λ (b : Bool). cond b (Some Count) None) room

new_is_above : (tree : TreeState) → is_none (next_number tree) ≡ false → ltb tree.greatest (new_number tree).0 ≡ true
new_is_above tree left =
    ⊎_elim
    (λ (more : ltb tree.greatest (2 ^ 32 - 1) ≡ true).
    ap (λ (b : Bool). ltb tree.greatest (unwrap_or (cond b (Some (channel (tree.greatest + 1))) None) ROOT).0) more
    ∙ lt-ltb tree.greatest (tree.greatest + 1) (omega arith))
    (λ (none : ltb tree.greatest (2 ^ 32 - 1) ≡ false).
    let lost : is_none (cond (ltb tree.greatest (2 ^ 32 - 1)) (Some (channel (tree.greatest + 1))) None) ≡ false = left in
    let gone : true ≡ false = ap (λ (b : Bool). is_none (cond b (Some (channel (tree.greatest + 1))) None)) (sym none) ∙ lost in
    cc)
    (cases_Bool (ltb tree.greatest (2 ^ 32 - 1)))

new_fits : (state : StateValue) (actor : SessionId) (message : ChannelState) → IsHeard state actor → is_there state.tree.channels (parent_of_new message) ≡ true → first_standing (limits state (Command.make message)) ≡ None → fits state (edit_to_make state.tree actor message) ≡ true
new_fits state actor message heard there free =
    let tree = state.tree in
    let rows = tree.channels in
    let parent = parent_of_new message in
    let id = new_number tree in
    let name = text_or_empty message.name in
    let description = text_or_empty message.description in
    let off = all_off (limits_of_new tree parent name description) free in
    let no_name = off.0 in
    let no_parent = off.1.0 in
    let no_depth = off.1.1.0 in
    let no_count = off.1.1.1.0 in
    let no_text = off.1.1.1.1.0 in
    let (bad, taken) = or_parts (not (is_name name)) (is_taken rows parent id name) no_name in
    let (full, used_up) = or_parts (is_full tree) (is_none (next_number tree)) no_count in
    let fault = fault_of_add tree id parent name in
    let added : is_none fault ≡ true = ap is_none (add_allowed tree id parent name there taken no_parent no_depth full) in
    let edit = edit_to_make tree actor message in
    fits_from state edit
    (named_from state edit (by_actor state actor heard) (and_from (is_there rows parent) true there refl) refl)
    (new_is_above tree used_up)
    (and_from (is_none fault && is_name name) (is_text description) (and_from (is_none fault) (is_name name) added (not-false (is_name name) bad)) (not-false (is_text description) no_text))
    heard.room

-- ---- other parts of a channel

seat_allowed : (tree : TreeState) (id : ChannelId) (name : List ℕ) (parent : ChannelId) (renamed_or_moved : Bool) → (renamed_or_moved && is_root id) ≡ false → (renamed_or_moved && is_taken tree.channels parent id name) ≡ false → (renamed_or_moved && is_below tree.channels id parent) ≡ false → (renamed_or_moved && is_temporary tree.channels parent) ≡ false → (renamed_or_moved && list_any (nests tree.channels id parent) tree.channels) ≡ false → cond renamed_or_moved (fault_of_placement tree id name parent) None ≡ None
seat_allowed tree id name parent false root free above lasting shallow = refl
seat_allowed tree id name parent true root free above lasting shallow =
    let rows = tree.channels in
    let deep : Option TreeFault = cond (list_any (nests rows id parent) rows) (Some Nesting) None in
    let temporary : Option TreeFault = cond (is_temporary rows parent) (Some TemporaryParent) deep in
    let under : Option TreeFault = cond (is_below rows id parent) (Some UnderItself) temporary in
    let taken : Option TreeFault = cond (is_taken rows parent id name) (Some SameName) under in
    ap (λ (b : Bool). cond b (Some RootFixed) taken) root
    ∙ ap (λ (b : Bool). cond b (Some SameName) under) free
    ∙ ap (λ (b : Bool). cond b (Some UnderItself) temporary) above
    ∙ ap (λ (b : Bool). cond b (Some TemporaryParent) deep) lasting
    ∙ ap (λ (b : Bool). cond b (Some Nesting) None) shallow

change_allowed : (tree : TreeState) (id : ChannelId) (change : Change) → change_names_there tree id change ≡ true → cond (renames_or_moves tree id change) (fault_of_placement tree id (name_after tree id change) (parent_after tree id change)) None ≡ None → overlinks tree id change ≡ false → fault_of_edit tree id change ≡ None
change_allowed tree id change there seat links =
    let seats : Option TreeFault = cond (renames_or_moves tree id change) (fault_of_placement tree id (name_after tree id change) (parent_after tree id change)) None in
    let over : Option TreeFault = cond (overlinks tree id change) (Some LinkCount) None in
    ap (λ (b : Bool). cond (not b) (Some NoChannel) (option_map_or (λ fault. Some fault) seats over)) there
    ∙ ap (λ (s : Option TreeFault). option_map_or (λ fault. Some fault) s over) seat
    ∙ ap (λ (b : Bool). cond b (Some LinkCount) None) links

-- a change which no limit forbids is one that the tree takes, with a good name and description
record IsGood (tree : TreeState) (id : ChannelId) (change : Change) : Type 0 where
  taken : fault_of_edit tree id change ≡ None
  name : holds_of_given is_name change.name ≡ true
  text : holds_of_given is_text change.description ≡ true

good : (tree : TreeState) (id : ChannelId) (change : Change) → change_names_there tree id change ≡ true → first_standing (limits_of_change tree id change) ≡ None → IsGood tree id change
good tree id change there free =
    let rows = tree.channels in
    let name = name_after tree id change in
    let parent = parent_after tree id change in
    let renamed_or_moved = renames_or_moves tree id change in
    let off = all_off (limits_of_change tree id change) free in
    let root = off.0 in
    let names = off.1.0 in
    let above = off.1.1.0 in
    let lasting = off.1.1.1.0 in
    let shallow = off.1.1.1.1.0 in
    let short = off.1.1.1.1.1.0 in
    let links = off.1.1.1.1.1.1.0 in
    let (bad, taken) = or_parts (not (holds_of_given is_name change.name)) (renamed_or_moved && is_taken rows parent id name) names in
    record {
      taken = change_allowed tree id change there (seat_allowed tree id name parent renamed_or_moved root taken above lasting shallow) (parted tree id change links);
      name = not-false (holds_of_given is_name change.name) bad;
      text = not-false (holds_of_given is_text change.description) short;
    }

edit_fits : (state : StateValue) (actor : SessionId) (id : ChannelId) (message : ChannelState) → IsProper state → IsHeard state actor → AreThere state.tree id message → first_standing (limits state (Command.edit id message)) ≡ None → fits state (edit_to_change state.tree actor id message) ≡ true
edit_fits state actor id message proper heard there free =
    let tree = state.tree in
    let rows = tree.channels in
    let change = change_asked tree id message in
    let edit = edit_to_change tree actor id message in
    let found = good tree id change (change_there tree id message proper.tree there) free in
    let adds = others id message.links_add in
    let removes = others id message.links_remove in
    let parent = given (new_parent tree id message) in
    let p = is_there rows in
    let linked : list_all p (parent ++ adds ++ removes) ≡ true =
    list_all-append p (parent ++ adds) removes
    ∙ and_from (list_all p (parent ++ adds)) (list_all p removes)
    (list_all-append p parent adds ∙ and_from (list_all p parent) (list_all p adds) (given_there tree (new_parent tree id message) there.parent) there.added)
    there.removed in
    let taken : is_none (fault_of_edit tree id change) ≡ true = ap is_none found.taken in
    let a = is_none (fault_of_edit tree id change) in
    let b = holds_of_given is_name change.name in
    let c = holds_of_given is_text change.description in
    fits_from state edit
    (named_from state edit (by_actor state actor heard) (and_from (p id) (list_all p (parent ++ adds ++ removes)) there.here linked) refl)
    refl
    (and_from (a && b) c (and_from a b taken found.name) found.text)
    heard.room

-- ---- a channel that goes

removal_fits : (state : StateValue) (actor : SessionId) (id : ChannelId) → IsHeard state actor → is_there state.tree.channels id ≡ true → first_standing (limits state (Command.remove id)) ≡ None → fits state (RemoveChannel id actor) ≡ true
removal_fits state actor id heard there free =
    let lower = (all_off (limits_of_removal id) free).0 in
    let edit = RemoveChannel id actor in
    let fixed : Option TreeFault = cond (is_root id) (Some RootFixed) None in
    let allowed : fault_of_remove state.tree id ≡ None = ap (λ (b : Bool). cond (not b) (Some NoChannel) fixed) there ∙ ap (λ (b : Bool). cond b (Some RootFixed) None) lower in
    fits_from state edit
    (named_from state edit (by_actor state actor heard) (and_from (is_there state.tree.channels id) true there refl) refl)
    refl
    (ap is_none allowed)
    heard.room

-- ---- another policy

-- the permissions among these bits are all permissions that there are
among_all : (bits : ℕ) → bit_and ALL.0 (bit_and bits ALL.0) ≡ bit_and bits ALL.0
among_all bits = and_comm ALL.0 (bit_and bits ALL.0) ∙ and_assoc ALL.0 bits ALL.0

sound_entries : (lines : List AclLine) → list_all is_sound_entry (map entry_asked lines) ≡ true
sound_entries [] = refl
sound_entries (line ∷ lines) =
    let grant = unwrap_or line.grant 0 in
    let deny = unwrap_or line.deny 0 in
    let grants = eq-eqb (bit_and ALL.0 (bit_and grant ALL.0)) (bit_and grant ALL.0) (among_all grant) in
    let denies = eq-eqb (bit_and ALL.0 (bit_and deny ALL.0)) (bit_and deny ALL.0) (among_all deny) in
    and_from (is_sound_entry (entry_asked line)) (list_all is_sound_entry (map entry_asked lines))
    (and_from (holds ALL.0 (bit_and grant ALL.0)) (holds ALL.0 (bit_and deny ALL.0)) grants denies)
    (sound_entries lines)

policy_fits : (state : StateValue) (actor : SessionId) (id : ChannelId) (message : AclMessage) → IsHeard state actor → is_there state.tree.channels id ≡ true → first_standing (limits state (Command.set id message)) ≡ None → fits state (SetAcl id (Some actor) (policy_asked message)) ≡ true
policy_fits state actor id message heard there free =
    let policy = policy_asked message in
    let off = all_off (limits_of_policy policy) free in
    let small = off.0 in
    let named = off.1.0 in
    let edit = SetAcl id (Some actor) policy in
    let a = not (is_large_policy policy) in
    let b = list_all (λ (group : Group). is_name group.name) policy.groups in
    let c = list_all is_sound_entry policy.acls in
    fits_from state edit
    (named_from state edit (by_actor state actor heard) (and_from (is_there state.tree.channels id) true there refl) refl)
    refl
    (and_from (a && b) c (and_from a b (not_from_false (is_large_policy policy) small) (not-false b named)) (sound_entries (filter (λ line. not (is_inherited line.inherited)) message.acls)))
    heard.room

-- ---- every command

-- a verdict on a command fits, where its outcome does once no limit applies
command_fits : (state : StateValue) (who : Actor) (actor : SessionId) (command : Command) → (first_standing (limits state command) ≡ None → FitsWhereAccepted state (outcome state actor command)) → FitsWhereAccepted state (command_verdict state who actor command)
command_fits state who actor command fitting =
    fits_unless state _ (first_lack state (needs state.tree who command)) _ (λ lack. tt) (λ none.
    fits_unless state _ (first_standing (limits state command)) _ (λ kind. tt) fitting)

named_number : (tree : TreeState) (number : Option ℕ) → is_named_there tree number ≡ true → is_there tree.channels (channel_or_root number) ≡ true
named_number tree None named = cc
named_number tree (Some number) named = named

answer_fits : (state : StateValue) (id : ChannelId) (policy : Option ChannelPolicy) → FitsWhereAccepted state (option_map_or (λ policy. Answer (answer_frame id policy)) policy (Ignored (reason_code NotThere)))
answer_fits state id None = tt
answer_fits state id (Some policy) = tt

-- a ChannelState, with the number of its channel if it has one
state_fits : (state : StateValue) (who : Actor) (actor : SessionId) (message : ChannelState) (asked : Option ℕ) → message.channel_id ≡ asked → IsProper state → IsHeard state actor → names_there_in state.tree (State message) ≡ true → FitsWhereAccepted state (command_verdict state who actor (option_map_or (λ number. Command.edit (channel number) message) asked (Command.make message)))
state_fits state who actor message (Some number) is proper heard named =
    command_fits state who actor (Command.edit (channel number) message) (edit_fits state actor (channel number) message proper heard (are_there state.tree number message is named))
state_fits state who actor message None is proper heard named =
    let tree = state.tree in
    let a = is_named_there tree (option_or message.channel_id message.parent) in
    let b = holds_of_given (is_number_there tree) message.parent in
    let c = list_all (is_number_there tree) message.links_add in
    let (abc, removed) = and_parts ((a && b) && c) (list_all (is_number_there tree) message.links_remove) named in
    let (ab, added) = and_parts (a && b) c abc in
    let (here, parent) = and_parts a b ab in
    let above = subst (λ (o : Option ℕ). is_named_there tree (option_or o message.parent) ≡ true) is here in
    command_fits state who actor (Command.make message) (new_fits state actor message heard (named_number tree message.parent above))

acl_fits : (state : StateValue) (who : Actor) (actor : SessionId) (id : ChannelId) (message : AclMessage) (query : Bool) → IsHeard state actor → is_there state.tree.channels id ≡ true → FitsWhereAccepted state (command_verdict state who actor (cond query (Command.query id) (Command.set id message)))
acl_fits state who actor id message true heard there =
    command_fits state who actor (Command.query id) (λ free. answer_fits state id (policy_of state id))
acl_fits state who actor id message false heard there =
    command_fits state who actor (Command.set id message) (policy_fits state actor id message heard there)

message_fits : (state : StateValue) (who : Actor) (actor : SessionId) (message : TreeMessage) → IsProper state → IsHeard state actor → names_there_in state.tree message ≡ true → FitsWhereAccepted state (command_verdict state who actor (command_of message))
message_fits state who actor (State message) proper heard named = state_fits state who actor message message.channel_id refl proper heard named
message_fits state who actor (Remove message) proper heard named =
    let id = channel_or_root message.channel_id in
    command_fits state who actor (Command.remove id) (removal_fits state actor id heard (named_number state.tree message.channel_id named))
message_fits state who actor (Acl message) proper heard named =
    acl_fits state who actor (channel_or_root message.channel_id) message (is_query message) heard (named_number state.tree message.channel_id named)

-- an accepted edit fits the state
pub accepted_fits : (state : StateValue) (actor : SessionId) (message : TreeMessage) → IsProper state → FitsWhereAccepted state (tree_verdict state actor message)
accepted_fits state actor message proper =
    fits_unless state _ (first_standing (reasons state actor message)) _ (λ reason. tt) (λ none.
    let off = all_off (reasons state actor message) none in
    message_fits state (actor_named state actor) actor message proper (heard state actor off.0) (not-false (names_there_in state.tree message) off.1.1.0))
