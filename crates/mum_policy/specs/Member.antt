-- Which sessions are in a group: "Groups" of the Murmur manual.
use Rattle.std.specs.Prelude.{◌≡◌, ℕ, ◌-◌, ◌+◌, ◌<◌, ◌==◌, ◌&&◌, Bool, true, false, not, List, [], ◌∷◌, ◌++◌, length, map, take, filter, find, reverse, slice_index_or, Option, Some, None, is_some, if◌then◌else◌}
use Rattle.std.specs.{List.list_any, Str.bytes_eq, Str.str_eq_ignore_ascii_case}
use Rattle.mum_base.specs.declared.number.{AccountId.AccountId, ChannelId.ChannelId}
use Rattle.mum_policy.specs.declared.policy.{Group.Group, ChannelPolicy.ChannelPolicy, Who.Who}
use Rattle.mum_policy.specs.{Name.Asks, Name.Understood, Name.understood, Subtree.is_below}

-- the policies of channels
abbrev pub PolicyMap : Type 0
PolicyMap = ChannelId → Option ChannelPolicy

-- ---- a channel's definition of a group

-- of several groups of one name the first
unfoldable pub definition : Option ChannelPolicy → List ℕ → Option Group
definition None name = None
definition (Some policy) name = find (λ group. bytes_eq group.name name) policy.groups

-- ---- the definitions of a name, from a channel upwards

-- A definition above the chosen channel that is not inheritable ends the collection and is not taken.
-- One that is taken and does not inherit ends it too. A channel without the name is skipped.
abbrev pub taken : Bool → Option Group → List Group → List Group
taken above None further = further
taken above (Some group) further =
    if above && not group.inheritable then []
    else group ∷ (if group.inherit then further else [])

-- the definitions that are taken, from a channel and those above it
unfoldable pub definitions_from : Bool → List ℕ → List (Option ChannelPolicy) → List Group
definitions_from above name [] = []
definitions_from above name (policy ∷ up) = taken above (definition policy name) (definitions_from true name up)

-- the same, by the policies of the chosen channel and of those above it; the nearest comes first
abbrev pub definitions : List ℕ → List (Option ChannelPolicy) → List Group
definitions name up = definitions_from false name up

-- ---- the accounts of a group

-- the account is one of these
abbrev pub lists : List AccountId → AccountId → Bool
lists accounts account = list_any (λ listed. listed.0 == account.0) accounts

-- those that are not removed
abbrev pub without : List AccountId → List AccountId → List AccountId
without removed accounts = filter (λ account. not (lists removed account)) accounts

-- from the furthest definition to the nearest, each adds accounts and then removes some
unfoldable pub members : List Group → List AccountId
members [] = []
members (nearest ∷ further) = without nearest.remove (members further ++ nearest.add)

-- a session without an account is in no such group
unfoldable pub is_listed : List Group → Option AccountId → Bool
is_listed groups None = false
is_listed groups (Some account) = lists (members groups) account

-- these are the policies of the first channels of a path
abbrev pub IsFound : PolicyMap → List ChannelId → List (Option ChannelPolicy) → Type 0
IsFound policies path found =
    (i : ℕ) (d : ChannelId) → i < length path → i < length found
    → slice_index_or found i None ≡ policies (slice_index_or path i d)

-- ---- the session

-- A session, as entries and groups see it; `home` is the path from the root to its channel.
pub record Actor : Type 0 where
  pub account : Option AccountId
  pub channel : ChannelId
  pub home : List ChannelId
  pub tokens : List (List ℕ)

-- what the code's session says
abbrev pub actor_of : Who → Actor
actor_of who = record { account = who.account; channel = who.channel; home = who.home.now; tokens = who.tokens.now }

-- one of the tokens is the word, ASCII case ignored
unfoldable pub has_token : List (List ℕ) → List ℕ → Bool
has_token tokens word = list_any (λ token. str_eq_ignore_ascii_case token word) tokens

-- the channel at a place of the path, and those above it
abbrev pub upwards : List ChannelId → ℕ → List ChannelId
upwards path place = reverse (take (place + 1) path)

-- the session is in the chosen channel
unfoldable pub is_in : Actor → List ChannelId → Bool
is_in who [] = false
is_in who (chosen ∷ above) = chosen.0 == who.channel.0

-- ---- membership

-- where a name is evaluated: for the last channel of the path, and an ACL of the channel at `acl_at`
pub record Question : Type 0 where
  pub path : List ChannelId
  pub acl_at : ℕ

-- the chosen channel and those above it
abbrev pub chosen : Question → Bool → List ChannelId
chosen question at_acl = upwards question.path (if at_acl then question.acl_at else length question.path - 1)

-- the session meets what is asked; `~`, which chooses the channel of the ACL, has no effect on `sub`
unfoldable pub meets : PolicyMap → Question → Bool → Actor → Asks → Bool
meets policies question at_acl who Asks.nobody = false
meets policies question at_acl who Asks.everybody = true
meets policies question at_acl who Asks.registered = is_some who.account
meets policies question at_acl who Asks.inside = is_in who (chosen question at_acl)
meets policies question at_acl who Asks.outside = not (is_in who (chosen question at_acl))
meets policies question at_acl who (Asks.token word) = has_token who.tokens word
meets policies question at_acl who (Asks.subtree span) = is_below question.path question.acl_at span who.home
meets policies question at_acl who (Asks.defined name) =
    is_listed (definitions name (map policies (chosen question at_acl))) who.account

-- the answer, which is negated last
abbrev pub member_by : PolicyMap → Question → Actor → Understood → Bool
member_by policies question who name =
    let met : Bool = meets policies question name.at_acl who name.asks in
    if name.negated then not met else met

-- the session is in the group of this name, evaluated for the last channel of the path and an ACL at a place of it
unfoldable pub member : PolicyMap → List ChannelId → ℕ → List ℕ → Actor → Bool
member policies path acl_at name who =
    member_by policies (record { path = path; acl_at = acl_at }) who (understood name)
