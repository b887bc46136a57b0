-- What the server knows, as plain data.
use Rattle.std.specs.Prelude.{ℕ, ◌==◌, Bool, true, List, [], ◌∷◌, find, replicate, Option, None, if◌then◌else◌}
use Rattle.std.specs.{Cmp.Lexicographic.slice_cmp, List.list_any, Option.option_map, Ordering.is_lt, Ordering.nat_cmp}
use Rattle.std.specs.Str.{bytes_eq}
use Rattle.mum_base.specs.declared.number.{AccountId.AccountId, ChannelId.ChannelId, TheConstants.ChannelId.ROOT}
use Rattle.mum_base.specs.declared.number.TheConstants.{SLOTS}
use Rattle.mum_policy.specs.declared.policy.ChannelPolicy.{ChannelPolicy}
use Rattle.mum_policy.specs.Member.{PolicyMap}
use Rattle.mum_tree.specs.State.{TreeState, root_alone}
use Rattle.mum_users.specs.State.{RosterState, empty_roster}
use Rattle.mum_state.specs.declared.{account.Account.Account, server.Server.Server}
use Rattle.mum_state.specs.declared.server.TheConstants.{DEFAULT_BANDWIDTH}

-- a channel's policy
pub record PolicyRow : Type 0 where
  pub channel : ChannelId
  pub policy : ChannelPolicy

-- how many edits were made: by sessions, of those that change policies or paths, of those that change what a route
-- reads, and for each slot of those that change what may be asked of the session in it
pub record Counts : Type 0 where
  pub revision : ℕ
  pub policy : ℕ
  pub routing : ℕ
  pub slots : List ℕ

pub record StateValue : Type 0 where
  pub server : Server
  -- by their names
  pub accounts : List Account
  pub tree : TreeState
  -- one for each channel, in order of number
  pub policies : List PolicyRow
  pub roster : RosterState
  pub counts : Counts

-- the policy of a new channel: it inherits, and adds nothing
abbrev pub open_policy : ChannelPolicy
open_policy = record { inherit_acls = true; groups = []; acls = [] }

abbrev pub policy_row : ChannelId → PolicyRow
policy_row channel = record { channel = channel; policy = open_policy }

-- the policies of the channels that are there
abbrev pub policy_of : StateValue → PolicyMap
policy_of state id = option_map (λ row. row.policy) (find (λ row. row.channel.0 == id.0) state.policies)

-- the account's name comes before this one, by their bytes
abbrev pub is_before : List ℕ → Account → Bool
is_before name account = is_lt (slice_cmp nat_cmp account.name name)

abbrev pub account_below : Account → Account → Bool
account_below account other = is_before other.name account

-- the account at its place among these
abbrev pub with_account : Account → List Account → List Account
with_account new [] = new ∷ []
with_account new (account ∷ accounts) =
    if account_below account new then account ∷ with_account new accounts else new ∷ account ∷ accounts

abbrev pub is_named : List ℕ → Account → Bool
is_named name account = bytes_eq account.name name

abbrev pub is_numbered : AccountId → Account → Bool
is_numbered number account = account.account.0 == number.0

abbrev pub has_account : StateValue → AccountId → Bool
has_account state number = list_any (is_numbered number) state.accounts

-- the account of a name
abbrev pub account_named : StateValue → List ℕ → Option Account
account_named state name = find (is_named name) state.accounts

-- nobody is greeted, and no password is asked
abbrev pub plain_server : Server
plain_server = record { welcome = []; bandwidth = DEFAULT_BANDWIDTH; password = None }

abbrev pub no_counts : Counts
no_counts = record { revision = 0; policy = 0; routing = 0; slots = replicate SLOTS 0 }

-- the root alone, and no session
abbrev pub empty_state : StateValue
empty_state = record {
  server = plain_server;
  accounts = [];
  tree = root_alone;
  policies = policy_row ROOT ∷ [];
  roster = empty_roster;
  counts = no_counts;
}
