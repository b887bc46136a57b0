-- A message on channels is refused for the first limit that applies.
use Rattle.mum_limits_laws.proofs.Common.{◌≡◌, ◌≢◌, ℕ, ◌+◌, ◌-◌, ◌^◌, ◌≤◌, ◌<◌, ◌==◌, ◌&&◌, ◌||◌, not, Bool, true, false, cond, List, [], ◌∷◌, ◌++◌, map, filter, length, Option, Some, None, refl, sym, ap, subst, ◌∙◌, arith, is_none, is_some, nat_le, nat_lt, unwrap_or, Contains, list_all, list_any, option_map, option_map_or, bytes_eq, and_parts, false≢true, nat_tests, length-map, All-contains, none-some, bytes_eq-Decides, deny_code, ChannelId, SessionId, ROOT, DenyType, ChannelCountLimit, ChannelName, NestingLimit, TemporaryChannel, TextTooLong, AclMessage, AclGroup, AclLine, ChannelState, ChannelPolicy, Account, Group, is_large_group, is_large_policy, is_long_whom, Row, Change, given_or, name_after, overlinks, parent_after, renames_or_moves, is_full, name_here, parent_of, is_below, is_root, is_taken, is_temporary, is_there, nests, path, row_of, TreeState, next_number, holds_of_given, IsProper, is_name, is_text, StateValue, Command, change_asked, channel, command_of, given_unless, is_number_there, is_other, names_there, others, parent_of_new, text_or_empty, first_lack, first_standing, limits, limits_of_new, new_number, takes_no_channels, without_parting, needs, outcome, account, entry_asked, group_asked, has_twice, policy_asked, whom_asked, reasons, actor_named, tree_verdict, TreeMessage, Acl, Remove, State, all_off, HasName, IsOnWay, IsTemporary, NestsTooDeep, Tells, TellsEach, tells_and, tells_any, tells_eq, tells_le, tells_lt, tells_not, tells_off, tells_or, tells_so, over, named, nested, on_way, same_bytes, temporary, IsRefusedFor, AgainstChanging, AgainstMaking, AgainstRemoving, AgainstRuling, ChangesAreRefusedForTheFirst, ComesTwice, IsLargeGroup, IsLargePolicy, IsLongLine, IsNameThere, IsPlaced, NewChannelsAreRefusedForTheFirst, PoliciesAreRefusedForTheFirst, RemovalsAreRefusedForTheFirst, TreeLimit, groups_set, lines_set, name_of, name_then, number, parent_then}
use Rattle.mum_base.specs.declared.outcome.DenyType.TheVariants.{Text}
use Rattle.mum_limits_laws.proofs.{Limited.any_map, Limited.limited_lem, Limited.long, Limited.rows, NeedLaws.ends}

-- ---- limits and their denials

abbrev type_of : TreeLimit → DenyType
type_of TreeLimit.taken_name = ChannelName
type_of TreeLimit.long_text = TextTooLong
type_of TreeLimit.temporary_parent = TemporaryChannel
type_of TreeLimit.too_deep = NestingLimit
type_of TreeLimit.too_many = ChannelCountLimit
type_of other = Text

same_number : (limit : TreeLimit) → deny_code (type_of limit) ≡ number limit
same_number TreeLimit.fixed_root = refl
same_number TreeLimit.taken_name = refl
same_number TreeLimit.under_itself = refl
same_number TreeLimit.temporary_parent = refl
same_number TreeLimit.too_deep = refl
same_number TreeLimit.too_many = refl
same_number TreeLimit.long_text = refl
same_number TreeLimit.too_many_links = refl
same_number TreeLimit.large_policy = refl
same_number TreeLimit.unnamed_group = refl
same_number TreeLimit.doubled_group = refl

verdict_refused : (state : StateValue) (actor : SessionId) (message : TreeMessage) (Applies : TreeLimit → Type 0) (tests : List (TreeLimit × Bool)) → limits state (command_of message) ≡ rows type_of tests
    → (first_standing (reasons state actor message) ≡ None → TellsEach Applies tests) → IsRefusedFor number Applies (map (λ test. test.0) tests) (tree_verdict state actor message)
verdict_refused state actor message Applies tests are tells =
    limited_lem type_of number same_number Applies tests (limits state (command_of message)) are (first_standing (reasons state actor message)) tells
    (first_lack state (needs state.tree (actor_named state actor) (command_of message))) (outcome state actor (command_of message)) (ends state actor (command_of message))

-- ---- a new channel

no_number : (greatest most : ℕ) → Tells (is_none (cond (nat_lt greatest most) (Some (channel (greatest + 1))) None)) (most ≤ greatest)
no_number greatest most = step (nat_lt greatest most) refl
  where
    more : (a b : ℕ) → nat_lt a b ≡ false → b ≤ a
    more a b is = grind (arith, nat_tests)

    less : (a b : ℕ) → nat_lt a b ≡ true → b ≤ a → ⊥
    less a b is other = grind (arith, nat_tests)

    step : (b : Bool) → nat_lt greatest most ≡ b → Tells (is_none (cond b (Some (channel (greatest + 1))) None)) (most ≤ greatest)
    step true is = record { so = λ never. absurd (false≢true never); not_so = λ _ other. less greatest most is other }
    step false is = record { so = λ _. more greatest most is; not_so = λ off _. false≢true (sym off) }

-- no channel has the number of a new one, but the root where none is left
unused : (tree : TreeState) (n : ℕ) → n ≤ tree.greatest → n ≢ 0 → n ≢ (new_number tree).0
unused tree n known other = step (nat_lt tree.greatest (2 ^ 32 - 1))
  where
    above : (n greatest : ℕ) → n ≤ greatest → n ≢ greatest + 1
    above n greatest known = omega (arith, known)

    step : (b : Bool) → n ≢ (unwrap_or (cond b (Some (channel (tree.greatest + 1))) None) ROOT).0
    step true = above n tree.greatest known
    step false = other

name_there : (state : StateValue) (parent : ℕ) (name : List ℕ) → IsProper state → Tells (is_taken state.tree.channels (channel parent) (new_number state.tree) name) (IsNameThere state parent name)
name_there state parent name proper =
    tells_so (is_taken state.tree.channels (channel parent) (new_number state.tree) name)
    (λ (has : HasName state.tree (channel parent) (new_number state.tree) name). (has.0, has.1, has.2, has.3, has.5))
    (λ (has : IsNameThere state parent name).
    (has.0, has.1, has.2, has.3, unused state.tree has.0.channel.id.0 (All-contains (λ (row : Row). row.channel.id.0 ≤ state.tree.greatest) state.tree.channels has.0 proper.tree.known has.1) has.2, has.4))
    (named state.tree (channel parent) (new_number state.tree) name)

abbrev making_tests : StateValue → ChannelState → ℕ → List (TreeLimit × Bool)
making_tests state asked parent =
    let name : List ℕ = text_or_empty asked.name in
    (TreeLimit.taken_name, not (is_name name) || is_taken state.tree.channels (channel parent) (new_number state.tree) name)
    ∷ (TreeLimit.temporary_parent, is_temporary state.tree.channels (channel parent))
    ∷ (TreeLimit.too_deep, nat_le 33 (length (path state.tree.channels (channel parent))))
    ∷ (TreeLimit.too_many, takes_no_channels state.tree)
    ∷ (TreeLimit.long_text, not (is_text (text_or_empty asked.description)))
    ∷ []

making_tells : (state : StateValue) (asked : ChannelState) (parent : ℕ) → IsProper state → TellsEach (AgainstMaking state asked parent) (making_tests state asked parent)
making_tells state asked parent proper =
    let name : List ℕ = text_or_empty asked.name in (
      tells_or (not (is_name name)) (is_taken state.tree.channels (channel parent) (new_number state.tree) name) (tells_off (is_name name)) (name_there state parent name proper),
      (λ _. (
        temporary state.tree (channel parent),
        (λ _. (
          tells_le 33 (length (path state.tree.channels (channel parent))),
          (λ _. (
            tells_or (is_full state.tree) (is_none (next_number state.tree)) (tells_le state.tree.limit (length state.tree.channels)) (no_number state.tree.greatest (2 ^ 32 - 1)),
            (λ _. (long (text_or_empty asked.description), (λ _. tt))),
          )),
        )),
      )),
    )

pub new_channels_lem : NewChannelsAreRefusedForTheFirst
new_channels_lem state actor asked parent proper none under =
    let command : command_of (State asked) ≡ Command.make asked = ap (λ (o : Option ℕ). option_map_or (λ n. Command.edit (channel n) asked) o (Command.make asked)) none in
    let at : parent_of_new asked ≡ channel parent = ap (λ (o : Option ℕ). option_map_or channel o ROOT) under in
    verdict_refused state actor (State asked) (AgainstMaking state asked parent) (making_tests state asked parent)
    (ap (limits state) command ∙ ap (λ (id : ChannelId). limits_of_new state.tree id (text_or_empty asked.name) (text_or_empty asked.description)) at)
    (λ _. making_tells state asked parent proper)

-- ---- a change of a channel

number_same : (one other : ChannelId) → (one.0 == other.0) ≡ true → one ≡ other
number_same one other is = ap (λ (n : ℕ). record { 0 = n }) (equal one.0 other.0 is)
  where
    equal : (a b : ℕ) → (a == b) ≡ true → a ≡ b
    equal a b is = grind (arith, nat_tests)

-- a value that is given and is the present one gives the present one
name_given : (o : Option (List ℕ)) (here : List ℕ) → given_or (given_unless (λ (name : List ℕ). bytes_eq name here) o) here ≡ unwrap_or o here
name_given None here = refl
name_given (Some name) here = step (bytes_eq name here) refl
  where
    step : (b : Bool) → bytes_eq name here ≡ b → given_or (cond b None (Some name)) here ≡ name
    step true is = sym ((bytes_eq-Decides name here).0 is)
    step false is = refl

parent_given : (o : Option ℕ) (here : ChannelId) → given_or (given_unless (λ (parent : ChannelId). parent.0 == here.0) (option_map channel o)) here ≡ channel (unwrap_or o here.0)
parent_given None here = refl
parent_given (Some n) here = step (n == here.0) refl
  where
    step : (b : Bool) → (n == here.0) ≡ b → given_or (cond b None (Some (channel n))) here ≡ channel n
    step true is = sym (number_same (channel n) here is)
    step false is = refl

-- a name that is given and new, and is none
bad_name : (o : Option (List ℕ)) (here : List ℕ) → Tells (not (holds_of_given is_name (given_unless (λ (name : List ℕ). bytes_eq name here) o))) ((unwrap_or o here ≢ here) × (is_name (unwrap_or o here) ≡ false))
bad_name None here = record { so = λ is. absurd (false≢true is); not_so = λ _ both. both.0 refl }
bad_name (Some name) here = step (bytes_eq name here) (same_bytes name here)
  where
    step : (b : Bool) → Tells b (name ≡ here) → Tells (not (holds_of_given is_name (cond b None (Some name)))) ((name ≢ here) × (is_name name ≡ false))
    step true same = record { so = λ is. absurd (false≢true is); not_so = λ _ both. both.0 (same.so refl) }
    step false same =
        tells_so (not (is_name name)) (λ (off : is_name name ≡ false). ((λ is_here. same.not_so refl is_here), off)) (λ (both : (name ≢ here) × (is_name name ≡ false)). both.1) (tells_off (is_name name))

long_given : (o : Option (List ℕ)) → Tells (not (holds_of_given is_text o)) (20000 < length (unwrap_or o []))
long_given None = record { so = λ is. absurd (false≢true is); not_so = λ _ less. absurd (omega (arith, less)) }
long_given (Some text) = long text

module _ (state : StateValue) (asked : ChannelState) (row : Row) (found : row_of state.tree.channels row.channel.id ≡ Some row) where
  abbrev id : ChannelId
  id = row.channel.id

  abbrev change : Change
  change = change_asked state.tree id asked

  abbrev name : List ℕ
  name = name_after state.tree id change

  abbrev parent : ChannelId
  parent = parent_after state.tree id change

  abbrev moved : Bool
  moved = renames_or_moves state.tree id change

  here : name_here state.tree id ≡ row.channel.name
  here = ap (λ (o : Option Row). option_map_or (λ (one : Row). one.channel.name) o []) found

  under : parent_of state.tree id ≡ row.channel.parent
  under = ap (λ (o : Option Row). option_map_or (λ (one : Row). one.channel.parent) o id) found

  name_is : name ≡ name_then asked row
  name_is = name_given asked.name (name_here state.tree id) ∙ ap (unwrap_or asked.name) here

  parent_is : parent ≡ parent_then asked row
  parent_is = parent_given asked.parent (parent_of state.tree id) ∙ ap (λ (one : ChannelId). channel (unwrap_or asked.parent one.0)) under

  placed : Tells moved (IsPlaced asked row)
  placed =
      let same : moved ≡ (not (bytes_eq (name_then asked row) row.channel.name) || not ((parent_then asked row).0 == row.channel.parent.0)) =
      ap (λ (text : List ℕ). not (bytes_eq text (name_here state.tree id)) || not (parent.0 == (parent_of state.tree id).0)) name_is
      ∙ ap (λ (text : List ℕ). not (bytes_eq (name_then asked row) text) || not (parent.0 == (parent_of state.tree id).0)) here
      ∙ ap (λ (one : ChannelId). not (bytes_eq (name_then asked row) row.channel.name) || not (one.0 == (parent_of state.tree id).0)) parent_is
      ∙ ap (λ (one : ChannelId). not (bytes_eq (name_then asked row) row.channel.name) || not ((parent_then asked row).0 == one.0)) under in
      subst (λ (b : Bool). Tells b (IsPlaced asked row)) (sym same)
      (tells_or (not (bytes_eq (name_then asked row) row.channel.name)) (not ((parent_then asked row).0 == row.channel.parent.0))
      (tells_not (bytes_eq (name_then asked row) row.channel.name) (same_bytes (name_then asked row) row.channel.name))
      (tells_not ((parent_then asked row).0 == row.channel.parent.0) (tells_eq (parent_then asked row).0 row.channel.parent.0)))

  of_parent : (test : ChannelId → Bool) (Holds : ChannelId → Type 0) → Tells (test (parent_then asked row)) (Holds (parent_then asked row)) → Tells (moved && test parent) (IsPlaced asked row × Holds (parent_then asked row))
  of_parent test Holds tells = tells_and moved (test parent) placed (subst (λ (one : ChannelId). Tells (test one) (Holds (parent_then asked row))) (sym parent_is) tells)

  taken : Tells (not (holds_of_given is_name change.name) || (moved && is_taken state.tree.channels parent id name)) (AgainstChanging state asked row TreeLimit.taken_name)
  taken =
      tells_or (not (holds_of_given is_name change.name)) (moved && is_taken state.tree.channels parent id name)
      (subst (λ (text : List ℕ). Tells (not (holds_of_given is_name (given_unless (λ (one : List ℕ). bytes_eq one text) asked.name))) ((name_then asked row ≢ row.channel.name) × (is_name (name_then asked row) ≡ false)))
      (sym here) (bad_name asked.name row.channel.name))
      (of_parent (λ one. is_taken state.tree.channels one id name) (λ one. HasName state.tree one id (name_then asked row))
      (subst (λ (text : List ℕ). Tells (is_taken state.tree.channels (parent_then asked row) id text) (HasName state.tree (parent_then asked row) id (name_then asked row))) (sym name_is)
      (named state.tree (parent_then asked row) id (name_then asked row))))

  abbrev changing_tests : List (TreeLimit × Bool)
  changing_tests =
      (TreeLimit.fixed_root, moved && is_root id)
      ∷ (TreeLimit.taken_name, not (holds_of_given is_name change.name) || (moved && is_taken state.tree.channels parent id name))
      ∷ (TreeLimit.under_itself, moved && is_below state.tree.channels id parent)
      ∷ (TreeLimit.temporary_parent, moved && is_temporary state.tree.channels parent)
      ∷ (TreeLimit.too_deep, moved && list_any (nests state.tree.channels id parent) state.tree.channels)
      ∷ (TreeLimit.long_text, not (holds_of_given is_text change.description))
      ∷ (TreeLimit.too_many_links, overlinks state.tree id (without_parting change))
      ∷ []

  changing_tells : IsProper state → list_all (is_there state.tree.channels) (others id asked.links_add) ≡ true → is_there state.tree.channels id ≡ true → TellsEach (AgainstChanging state asked row) changing_tests
  changing_tells proper adds there = (
    tells_and moved (is_root id) placed (tells_eq id.0 0),
    (λ _. (
      taken,
      (λ _. (
        of_parent (is_below state.tree.channels id) (IsOnWay state.tree id) (on_way state.tree id (parent_then asked row)),
        (λ _. (
          of_parent (is_temporary state.tree.channels) (IsTemporary state.tree) (temporary state.tree (parent_then asked row)),
          (λ _. (
            of_parent (λ one. list_any (nests state.tree.channels id one) state.tree.channels) (NestsTooDeep state.tree id) (nested state.tree id (parent_then asked row)),
            (λ _. (
              long_given asked.description,
              (λ _. (over state.tree id (without_parting change) proper.tree there adds, (λ _. tt))),
            )),
          )),
        )),
      )),
    )),
  )

-- the links that come are to channels that are there
others_there : (tree : TreeState) (own : ChannelId) (numbers : List ℕ) → list_all (is_number_there tree) numbers ≡ true → list_all (is_there tree.channels) (others own numbers) ≡ true
others_there tree own [] all = refl
others_there tree own (n ∷ numbers) all =
    let both = and_parts (is_number_there tree n) (list_all (is_number_there tree) numbers) all in
    step (is_other own n) both.0 (others_there tree own numbers both.1)
  where
    step : (b : Bool) → is_number_there tree n ≡ true → list_all (is_there tree.channels) (others own numbers) ≡ true
        → list_all (is_there tree.channels) (map channel (cond b (n ∷ filter (is_other own) numbers) (filter (is_other own) numbers))) ≡ true
    step true there rest = ap (λ (b : Bool). b && list_all (is_there tree.channels) (others own numbers)) there ∙ rest
    step false there rest = rest

adds_there : (state : StateValue) (actor : SessionId) (asked : ChannelState) → first_standing (reasons state actor (State asked)) ≡ None → list_all (is_number_there state.tree) asked.links_add ≡ true
adds_there state actor asked clear =
    let off = all_off (reasons state actor (State asked)) clear in
    let all : names_there state.tree (State asked) ≡ true = on_where (names_there state.tree (State asked)) off.1.1.0 in
    let three = and_parts _ (list_all (is_number_there state.tree) asked.links_remove) all in
    (and_parts _ (list_all (is_number_there state.tree) asked.links_add) three.0).1
  where
    on_where : (b : Bool) → not b ≡ false → b ≡ true
    on_where true is = refl
    on_where false is = absurd (false≢true (sym is))

pub changes_lem : ChangesAreRefusedForTheFirst
changes_lem state actor asked row proper named_it found =
    let id : ChannelId = row.channel.id in
    let command : command_of (State asked) ≡ Command.edit id asked = ap (λ (o : Option ℕ). option_map_or (λ n. Command.edit (channel n) asked) o (Command.make asked)) named_it in
    let there : is_there state.tree.channels id ≡ true = ap (λ (o : Option Row). is_some o) found in
    verdict_refused state actor (State asked) (AgainstChanging state asked row) (changing_tests state asked row found) (ap (limits state) command)
    (λ clear. changing_tells state asked row found proper (others_there state.tree id asked.links_add (adds_there state actor asked clear)) there)

-- ---- a removal

pub removals_lem : RemovalsAreRefusedForTheFirst
removals_lem state actor asked n named_it =
    verdict_refused state actor (Remove asked) (AgainstRemoving n) ((TreeLimit.fixed_root, n == 0) ∷ [])
    (ap (λ (o : Option ℕ). limits state (Command.remove (option_map_or channel o ROOT))) named_it) (λ _. (tells_eq n 0, (λ _. tt)))

-- ---- a policy

large_group : (group : AclGroup) → Tells (is_large_group (group_asked group)) (IsLargeGroup group)
large_group group =
    tells_or (nat_lt 256 (length (group_asked group).add)) (nat_lt 256 (length (group_asked group).remove))
    (of_length 256 (length (group_asked group).add) (length group.add) (length-map group.add _)) (of_length 256 (length (group_asked group).remove) (length group.remove) (length-map group.remove _))
  where
    of_length : (most n m : ℕ) → n ≡ m → Tells (nat_lt most n) (most < m)
    of_length most n m is = subst (λ (k : ℕ). Tells (nat_lt most n) (most < k)) is (tells_lt most n)

long_line : (line : AclLine) → Tells (is_long_whom (whom_asked line)) (IsLongLine line)
long_line line = step line.user_id
  where
    step : (o : Option ℕ) → Tells (is_long_whom (option_map_or (λ number. Account (account number)) o (Group (text_or_empty line.group))))
        ((o ≡ None) × (128 < length (text_or_empty line.group)))
    step None = tells_so (nat_lt 128 (length (text_or_empty line.group))) (λ (more : 128 < length (text_or_empty line.group)). (refl, more)) (λ (both : (None ≡ None) × (128 < length (text_or_empty line.group))). both.1) (tells_lt 128 (length (text_or_empty line.group)))
    step (Some n) = record { so = λ is. absurd (false≢true is); not_so = λ _ both. none-some n (sym both.0) }

counted : {X Y : Type 0} (most : ℕ) (f : X → Y) (xs : List X) → Tells (nat_lt most (length (map f xs))) (most < length xs)
counted most f xs = subst (λ (n : ℕ). Tells (nat_lt most (length (map f xs))) (most < n)) (length-map xs f) (tells_lt most (length (map f xs)))

large : (asked : AclMessage) → Tells (is_large_policy (policy_asked asked)) (IsLargePolicy asked)
large asked =
    let policy : ChannelPolicy = policy_asked asked in
    let groups : Bool = nat_lt 64 (length policy.groups) in
    let entries : Bool = nat_lt 128 (length policy.acls) in
    tells_or (groups || entries || list_any is_large_group policy.groups) (list_any (λ entry. is_long_whom entry.whom) policy.acls)
    (tells_or (groups || entries) (list_any is_large_group policy.groups)
    (tells_or groups entries (counted 64 group_asked (groups_set asked)) (counted 128 entry_asked (lines_set asked)))
    (subst (λ (b : Bool). Tells b ((group : AclGroup) × Contains (groups_set asked) group × IsLargeGroup group)) (sym (any_map is_large_group group_asked (groups_set asked)))
    (tells_any (λ group. is_large_group (group_asked group)) IsLargeGroup large_group (groups_set asked))))
    (subst (λ (b : Bool). Tells b ((line : AclLine) × Contains (lines_set asked) line × IsLongLine line)) (sym (any_map (λ entry. is_long_whom entry.whom) entry_asked (lines_set asked)))
    (tells_any (λ line. is_long_whom (whom_asked line)) IsLongLine long_line (lines_set asked)))

not_all : {X : Type 0} (p : X → Bool) (xs : List X) → not (list_all p xs) ≡ list_any (λ x. not (p x)) xs
not_all p [] = refl
not_all p (x ∷ xs) = both (p x) (list_all p xs) ∙ ap (λ (b : Bool). not (p x) || b) (not_all p xs)
  where
    both : (a b : Bool) → not (a && b) ≡ (not a || not b)
    both true b = refl
    both false b = refl

unnamed : (asked : AclMessage) → Tells (not (list_all (λ group. is_name group.name) (policy_asked asked).groups)) ((group : AclGroup) × Contains (groups_set asked) group × (is_name (name_of group) ≡ false))
unnamed asked =
    subst (λ (b : Bool). Tells b ((group : AclGroup) × Contains (groups_set asked) group × (is_name (name_of group) ≡ false)))
    (sym (not_all (λ group. is_name group.name) (policy_asked asked).groups ∙ any_map (λ group. not (is_name group.name)) group_asked (groups_set asked)))
    (tells_any (λ group. not (is_name (name_of group))) (λ (group : AclGroup). is_name (name_of group) ≡ false) (λ group. tells_off (is_name (name_of group))) (groups_set asked))

abbrev ComesAgain : List ℕ → List (List ℕ) → Type 0
ComesAgain name names = (between after : List (List ℕ)) × (names ≡ between ++ name ∷ after)

again : (name : List ℕ) (names : List (List ℕ)) → Tells (list_any (bytes_eq name) names) (ComesAgain name names)
again name [] = record { so = λ is. absurd (false≢true is); not_so = λ _ some. none some.0 some.1 some.2 }
  where
    none : (between after : List (List ℕ)) → [] ≡ between ++ name ∷ after → ⊥
    none [] after is = cc
    none (one ∷ between) after is = cc
again name (one ∷ names) = step (bytes_eq name one) (same_bytes name one) (again name names)
  where
    step : (b : Bool) → Tells b (name ≡ one) → Tells (list_any (bytes_eq name) names) (ComesAgain name names) → Tells (b || list_any (bytes_eq name) names) (ComesAgain name (one ∷ names))
    step true same rest = record { so = λ _. ([], names, ap (λ (text : List ℕ). text ∷ names) (sym (same.so refl))); not_so = λ off _. false≢true (sym off) }
    step false same rest = record {
      so = λ on. (let some = rest.so on in (one ∷ some.0, some.1, ap (λ (list : List (List ℕ)). one ∷ list) some.2));
      not_so = λ off some. never some.0 some.1 some.2 off;
    }
      where
        never : (between after : List (List ℕ)) → one ∷ names ≡ between ++ name ∷ after → list_any (bytes_eq name) names ≡ false → ⊥
        never [] after is off = same.not_so refl cc
        never (other ∷ between) after is off = rest.not_so off (between, after, cc)

twice : (names : List (List ℕ)) → Tells (has_twice names) (ComesTwice names)
twice [] = record { so = λ is. absurd (false≢true is); not_so = λ _ some. none some.0 some.1 some.2 some.3 some.4 }
  where
    none : (before between after : List (List ℕ)) (name : List ℕ) → [] ≡ before ++ name ∷ (between ++ name ∷ after) → ⊥
    none [] between after name is = cc
    none (one ∷ before) between after name is = cc
twice (one ∷ names) = step (list_any (bytes_eq one) names) (again one names) (has_twice names) (twice names)
  where
    step : (b : Bool) → Tells b (ComesAgain one names) → (c : Bool) → Tells c (ComesTwice names) → Tells (b || c) (ComesTwice (one ∷ names))
    step true here c rest = record {
      so = λ _. (let some = here.so refl in ([], some.0, some.1, one, ap (λ (list : List (List ℕ)). one ∷ list) some.2));
      not_so = λ off _. false≢true (sym off);
    }
    step false here true rest = record {
      so = λ _. (let some = rest.so refl in (one ∷ some.0, some.1, some.2, some.3, ap (λ (list : List (List ℕ)). one ∷ list) some.4));
      not_so = λ off _. false≢true (sym off);
    }
    step false here false rest = record { so = λ is. absurd (false≢true is); not_so = λ _ some. never some.0 some.1 some.2 some.3 some.4 }
      where
        never : (before between after : List (List ℕ)) (name : List ℕ) → one ∷ names ≡ before ++ name ∷ (between ++ name ∷ after) → ⊥
        never [] between after name is = here.not_so refl (between, after, first)
          where
            first : names ≡ between ++ one ∷ after
            first = cc
        never (other ∷ before) between after name is = rest.not_so refl (before, between, after, name, cc)

pub policies_lem : PoliciesAreRefusedForTheFirst
policies_lem state actor asked no_query =
    let names : List (List ℕ) = map name_of (groups_set asked) in
    let same : map (λ group. group.name) (policy_asked asked).groups ≡ names = mapped (groups_set asked) in
    verdict_refused state actor (Acl asked) (AgainstRuling asked)
    ((TreeLimit.large_policy, is_large_policy (policy_asked asked))
    ∷ (TreeLimit.unnamed_group, not (list_all (λ group. is_name group.name) (policy_asked asked).groups))
    ∷ (TreeLimit.doubled_group, has_twice (map (λ group. group.name) (policy_asked asked).groups)) ∷ [])
    (ap (λ (query : Bool). limits state (cond query (Command.query (option_map_or channel asked.channel_id ROOT)) (Command.set (option_map_or channel asked.channel_id ROOT) asked))) no_query)
    (λ _. (
      large asked,
      (λ _. (
        unnamed asked,
        (λ _. (subst (λ (list : List (List ℕ)). Tells (has_twice list) (ComesTwice names)) (sym same) (twice names), (λ _. tt))),
      )),
    ))
  where
    mapped : (groups : List AclGroup) → map (λ group. group.name) (map group_asked groups) ≡ map name_of groups
    mapped [] = refl
    mapped (group ∷ groups) = ap (λ (list : List (List ℕ)). name_of group ∷ list) (mapped groups)
