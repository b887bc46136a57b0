-- Links and policies are those of the message that sets them.
use Rattle.mum_rights_laws.proofs.Common.{◌≡◌, ◌≢◌, ℕ, ◌==◌, ◌&&◌, ◌||◌, not, Bool, true, false, cond, List, [], ◌∷◌, filter, find, map, Option, Some, None, refl, ap, sym, ◌∙◌, subst, unwrap_or, AllZip, is_some, option_map, option_map_or, eqb-true, ne_eqb, is_among, ChannelId, SessionId, AclMessage, AclGroup, AclLine, ChannelState, ChannelPolicy, Account, Group, is_there, are_linked, own_after, User, applied, IsProper, set_by, with_policy, PolicyRow, StateValue, policy_of, Edit, fit_proper, change_asked, channel, is_other, others, edit_to_change, account, accounts, entry_asked, group_asked, policy_asked, whom_asked, TreeMessage, Acl, IsEntryAsked, IsGroupAsked, IsPolicyAsked, IsWhomAsked, LinksAreDone, PoliciesAreDone, AsksToChange, is_listed}
use Rattle.mum_rights_laws.proofs.{Altered.policy_none, ChannelLaws.of_kinds, ChannelLaws.there_was, Settled.linked, Settled.ruled, TreeKinds.IsKind, TreeKinds.changes, TreeKinds.makes, TreeKinds.removes, TreeKinds.rules}

-- ---- links

-- of channels that are linked or unlinked, the channel itself is none
listed_among : (id other : ChannelId) → other.0 ≢ id.0 → (numbers : List ℕ) → is_among (others id numbers) other ≡ is_listed numbers other
listed_among id other apart [] = refl
listed_among id other apart (n ∷ numbers) = step (n == id.0) refl (listed_among id other apart numbers)
  where
    step : (b : Bool) → (n == id.0) ≡ b → is_among (others id numbers) other ≡ is_listed numbers other
        → is_among (map channel (cond (not b) (n ∷ filter (is_other id) numbers) (filter (is_other id) numbers))) other ≡ ((n == other.0) || is_listed numbers other)
    step true is rest =
        rest ∙ ap (λ (t : Bool). t || is_listed numbers other) (sym (ne_eqb n other.0 (λ (e : n ≡ other.0). apart (sym e ∙ eqb-true n id.0 is))))
    step false off rest = ap (λ (t : Bool). (n == other.0) || t) rest

other_than : (was one gone : Bool) (apart : Bool) → apart ≡ false → ((was || (one && not apart)) && not gone) ≡ ((was || one) && not gone)
other_than was true gone false is = refl
other_than was false gone false is = refl
other_than was one gone true is = absurd (cc)

links_by : (before : StateValue) (actor : SessionId) (own : User) {message : TreeMessage} {edit : Edit} → IsKind before actor own message edit
    → (id other : ChannelId) (asked : ChannelState) → AsksToChange message id asked → other.0 ≢ id.0
    → are_linked (set_by before edit).tree id other ≡ ((are_linked before.tree id other || is_listed asked.links_add other) && not (is_listed asked.links_remove other))
links_by before actor own (makes given parent none named had_there) id other asked (is, asks) apart =
    let same : given ≡ asked = cc in
    let no : None ≡ Some id.0 = sym none ∙ ap (λ (one : ChannelState). one.channel_id) same ∙ asks in cc
links_by before actor own (changes given at named met) id other asked (is, asks) apart =
    let same : given ≡ asked = cc in
    let number : Some at.0 ≡ Some id.0 = sym named ∙ ap (λ (one : ChannelState). one.channel_id) same ∙ asks in
    let at_it : at.0 ≡ id.0 = cc in
    let it : at ≡ id = ap channel at_it in
    subst (λ (one : ChannelState). are_linked (set_by before (edit_to_change before.tree actor at given)).tree id other
    ≡ ((are_linked before.tree id other || is_listed one.links_add other) && not (is_listed one.links_remove other))) same
    (subst (λ (one : ChannelId). are_linked (set_by before (edit_to_change before.tree actor one given)).tree id other
    ≡ ((are_linked before.tree id other || is_listed given.links_add other) && not (is_listed given.links_remove other))) (sym it)
    (own_after before.tree id (change_asked before.tree id given) other
    ∙ ap (λ (t : Bool). (are_linked before.tree id other || (t && not (other.0 == id.0))) && not (is_among (others id given.links_remove) other)) (listed_among id other apart given.links_add)
    ∙ ap (λ (t : Bool). (are_linked before.tree id other || (is_listed given.links_add other && not (other.0 == id.0))) && not t) (listed_among id other apart given.links_remove)
    ∙ other_than (are_linked before.tree id other) (is_listed given.links_add other) (is_listed given.links_remove other) (other.0 == id.0) (ne_eqb other.0 id.0 apart)))
links_by before actor own (removes given top named had_there) id other asked (is, asks) apart = cc
links_by before actor own (rules given at named had_there) id other asked (is, asks) apart = cc

pub links_are_done_lem : LinksAreDone
links_are_done_lem =
    of_kinds (λ before after own message. (id other : ChannelId) (asked : ChannelState) → AsksToChange message id asked → other.0 ≢ id.0
    → are_linked after.tree id other
    ≡ (((are_linked before.tree id other || is_listed asked.links_add other) && not (is_listed asked.links_remove other))
    && is_there after.tree.channels id && is_there after.tree.channels other))
    (λ before actor own message edit proper kind fit id other asked asks apart.
    linked before edit id other
    ∙ ap (λ (t : Bool). t && is_there (applied before edit).tree.channels id && is_there (applied before edit).tree.channels other) (links_by before actor own kind id other asked asks apart))

-- ---- policies

numbers_are : (listed : List ℕ) → map (λ account. account.0) (accounts listed) ≡ listed
numbers_are [] = refl
numbers_are (n ∷ listed) = ap (λ (rest : List ℕ). n ∷ rest) (numbers_are listed)

groups_asked : (groups : List AclGroup) → AllZip IsGroupAsked groups (map group_asked groups)
groups_asked [] = tt
groups_asked (group ∷ groups) = (
  record { name = refl; inherit = refl; inheritable = refl; add = numbers_are group.add; remove = numbers_are group.remove },
  groups_asked groups,
)

whom_is : (line : AclLine) → IsWhomAsked line (whom_asked line)
whom_is line = step line.user_id refl
  where
    step : (o : Option ℕ) → line.user_id ≡ o → IsWhomAsked line (option_map_or (λ number. Account (account number)) o (Group (unwrap_or line.group [])))
    step None is = (is, refl)
    step (Some n) is = is

entries_asked : (lines : List AclLine) → AllZip IsEntryAsked lines (map entry_asked lines)
entries_asked [] = tt
entries_asked (line ∷ lines) = (
  record { whom = whom_is line; here = refl; subs = refl; grant = refl; deny = refl },
  entries_asked lines,
)

policy_is_asked : (asked : AclMessage) → IsPolicyAsked asked (policy_asked asked)
policy_is_asked asked = record {
  inherit_acls = refl;
  groups = groups_asked (filter (λ group. not (unwrap_or group.inherited false)) asked.groups);
  acls = entries_asked (filter (λ line. not (unwrap_or line.inherited false)) asked.acls);
}

-- the policy that is set for a channel that has one
set_there : (id : ChannelId) (policy : ChannelPolicy) (rows : List PolicyRow) → is_some (find (λ (row : PolicyRow). row.channel.0 == id.0) rows) ≡ true
    → option_map (λ (row : PolicyRow). row.policy) (find (λ (row : PolicyRow). row.channel.0 == id.0) (with_policy id policy rows)) ≡ Some policy
set_there id policy [] there = absurd (cc)
set_there id policy (row ∷ rows) there = step (row.channel.0 == id.0) refl (set_there id policy rows)
  where
    step : (b : Bool) → (row.channel.0 == id.0) ≡ b
        → (is_some (find (λ (one : PolicyRow). one.channel.0 == id.0) rows) ≡ true
        → option_map (λ (one : PolicyRow). one.policy) (find (λ (one : PolicyRow). one.channel.0 == id.0) (with_policy id policy rows)) ≡ Some policy)
        → option_map (λ (one : PolicyRow). one.policy)
        (cond ((cond b (record row { policy = policy }) row).channel.0 == id.0) (Some (cond b (record row { policy = policy }) row)) (find (λ (one : PolicyRow). one.channel.0 == id.0) (with_policy id policy rows)))
        ≡ Some policy
    step true is rest =
        ap (λ (b : Bool). option_map (λ (one : PolicyRow). one.policy) (cond b (Some (record row { policy = policy })) (find (λ (one : PolicyRow). one.channel.0 == id.0) (with_policy id policy rows)))) is
    step false off rest =
        ap (λ (b : Bool). option_map (λ (one : PolicyRow). one.policy) (cond b (Some row) (find (λ (one : PolicyRow). one.channel.0 == id.0) (with_policy id policy rows)))) off
        ∙ rest (sym (ap (λ (b : Bool). is_some (cond b (Some row) (find (λ (one : PolicyRow). one.channel.0 == id.0) rows))) off) ∙ there)

policy_by : (before : StateValue) (actor : SessionId) (own : User) {message : TreeMessage} {edit : Edit} → IsProper before → IsKind before actor own message edit
    → (id : ChannelId) (asked : AclMessage) → message ≡ Acl asked → asked.channel_id ≡ Some id.0 → is_there (set_by before edit).tree.channels id ≡ true
    → policy_of (set_by before edit) id ≡ Some (policy_asked asked)
policy_by before actor own proper (makes given parent none named had_there) id asked is asks there = cc
policy_by before actor own proper (changes given at named met) id asked is asks there = cc
policy_by before actor own proper (removes given top named had_there) id asked is asks there = cc
policy_by before actor own proper (rules given at named had_there) id asked is asks there =
    let same : given ≡ asked = cc in
    let number : Some at.0 ≡ Some id.0 = sym named ∙ ap (λ (one : AclMessage). one.channel_id) same ∙ asks in
    let at_it : at.0 ≡ id.0 = cc in
    let it : at ≡ id = ap channel at_it in
    ap (λ (one : ChannelId). option_map (λ (row : PolicyRow). row.policy) (find (λ (row : PolicyRow). row.channel.0 == id.0) (with_policy one (policy_asked given) before.policies))) it
    ∙ set_there id (policy_asked given) before.policies (policy_none before id proper ∙ there)
    ∙ ap (λ (one : AclMessage). Some (policy_asked one)) same

pub policies_are_done_lem : PoliciesAreDone
policies_are_done_lem =
    of_kinds (λ before after own message. (id : ChannelId) (asked : AclMessage) → message ≡ Acl asked → asked.channel_id ≡ Some id.0
    → is_there after.tree.channels id ≡ true → (policy : ChannelPolicy) × (policy_of after id ≡ Some policy) × IsPolicyAsked asked policy)
    (λ before actor own message edit proper kind fit id asked is asks there. (
      policy_asked asked,
      ruled before edit id there ∙ policy_by before actor own proper kind id asked is asks (there_was before edit (fit_proper before edit proper fit).0 id there),
      policy_is_asked asked,
    ))
