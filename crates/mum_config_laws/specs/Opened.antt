-- The state with which a server begins: what its configuration gives is there, and nothing else.
use Rattle.std.specs.Prelude.{◌≡◌, ◌≢◌, ◌⊎◌, ℕ, List, [], ◌∷◌, Some, Ok, codes, IsTrue}
use Rattle.std.specs.List.{Contains}
use Rattle.serde_json.specs.{Data.Data, Find.get, Read.read}
use Rattle.mum_base.specs.declared.number.ChannelId.{ChannelId}
use Rattle.mum_tree.specs.declared.channel.Row.{Row}
use Rattle.mum_tree.specs.State.{Pair, root_alone}
use Rattle.mum_state.specs.declared.{account.Account.Account, edit.Edit.TheVariants.SetLimits}
use Rattle.mum_state.specs.{After.led_to, Applied.applied, Fits.fits}
use Rattle.mum_state.specs.State.{PolicyRow, StateValue, empty_state, open_policy}
use Rattle.mum_config.specs.Document.{ReadsConfig}
use Rattle.mum_config.specs.declared.config.Config.{Config}
use Rattle.mum_config_laws.specs.Entries.{IsOf, SaysAccount, SaysChannel, SaysLink, SaysPolicy}
use Rattle.mum_config_laws.specs.Values.{IsDigest, IsListed, IsNumber, IsText, SaysMaybe, SaysOr}

-- the server is empty, or has other limits than an empty one
abbrev pub IsFirst : StateValue → Type 0
IsFirst first =
    (first ≡ empty_state)
    ⊎ ((sessions channels : ℕ) × IsTrue (fits empty_state (SetLimits sessions channels))
    × (first ≡ applied empty_state (SetLimits sessions channels)))

-- this holds of each text that is read as a configuration: of the document that it is, of what was read, of a state that
-- it is applied to, and of the state after that
abbrev pub OfConfigurations : (Data → Config → StateValue → StateValue → Type 0) → Type 0
OfConfigurations Holds =
    (text : List ℕ) (document : Data) (config : Config) (first : StateValue) → ReadsConfig text (Ok config)
    → read text ≡ Some document
    → IsFirst first → Holds document config first (led_to first config.edits)

-- ---- settings

-- an empty server greets nobody, lets each send 72,000 bits a second, has four workers and asks for no password
pub record IsSetAsGiven (document : Data) (config : Config) (state : StateValue) : Type 0 where
  pub welcome : SaysOr IsText [] (get (codes "welcome") document) state.server.welcome
  pub bandwidth : SaysOr IsNumber 72000 (get (codes "bandwidth") document) state.server.bandwidth
  pub workers : SaysOr IsNumber 4 (get (codes "workers") document) config.workers
  pub password : SaysMaybe IsDigest (get (codes "server_password_sha256") document) state.server.password

-- ---- lists

-- the entry's channel is there, with its policy
pub record IsChannelThere (state : StateValue) (value : Data) : Type 0 where
  pub row : Row
  pub policy : PolicyRow
  pub there : Contains state.tree.channels row
  pub ruled : Contains state.policies policy
  pub one : policy.channel ≡ row.channel.id
  pub channel : SaysChannel value row.channel
  pub rules : SaysPolicy value policy.policy

-- the pair says a link, which is there in both directions; one of a channel to itself is none
pub record IsLinkThere (state : StateValue) (value : Data) : Type 0 where
  pub one : ChannelId
  pub other : ChannelId
  pub says : SaysLink value one other
  pub to : one.0 ≢ other.0 → Contains state.tree.links (one, other)
  pub back : one.0 ≢ other.0 → Contains state.tree.links (other, one)

pub record IsGivenThere (document : Data) (config : Config) (state : StateValue) : Type 0 where
  pub settings : IsSetAsGiven document config state
  pub accounts : (value : Data) → IsListed (codes "accounts") document value → (account : Account) × Contains state.accounts account × SaysAccount value account
  pub channels : (value : Data) → IsListed (codes "channels") document value → IsChannelThere state value
  pub links : (value : Data) → IsListed (codes "links") document value → IsLinkThere state value

abbrev pub WhatIsGivenIsThere : Type 0
WhatIsGivenIsThere = OfConfigurations (λ document config first state. IsGivenThere document config state)

-- ---- nothing else

-- an entry says the channel, or it is the root as it is in an empty server
abbrev pub IsChannelGiven : Data → Row → Type 0
IsChannelGiven document row =
    ((value : Data) × IsListed (codes "channels") document value × SaysChannel value row.channel) ⊎ (row ∷ [] ≡ root_alone.channels)

-- the entry of its channel says the policy, or it is the root's and open
abbrev pub IsPolicyGiven : Data → PolicyRow → Type 0
IsPolicyGiven document row =
    ((value : Data) × IsListed (codes "channels") document value × IsOf value row.channel × SaysPolicy value row.policy)
    ⊎ ((row.channel.0 ≡ 0) × (row.policy ≡ open_policy))

-- an entry says the link, in one direction or the other
abbrev pub IsLinkGiven : Data → Pair → Type 0
IsLinkGiven document pair =
    (value : Data) × IsListed (codes "links") document value × (SaysLink value pair.0 pair.1 ⊎ SaysLink value pair.1 pair.0)

pub record IsAllGiven (document : Data) (first state : StateValue) : Type 0 where
  pub accounts : (account : Account) → Contains state.accounts account → (value : Data) × IsListed (codes "accounts") document value × SaysAccount value account
  pub channels : (row : Row) → Contains state.tree.channels row → IsChannelGiven document row
  pub policies : (row : PolicyRow) → Contains state.policies row → IsPolicyGiven document row
  pub links : (pair : Pair) → Contains state.tree.links pair → IsLinkGiven document pair
  -- nobody is there
  pub roster : state.roster ≡ first.roster
  pub limit : state.tree.limit ≡ first.tree.limit

abbrev pub NothingElseIsThere : Type 0
NothingElseIsThere = OfConfigurations (λ document config first state. IsAllGiven document first state)
