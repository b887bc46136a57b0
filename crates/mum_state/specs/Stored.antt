-- How the parts of a state lie in memory.
use Rattle.std.specs.Prelude.{◌≡◌, ◌==◌, ◌&&◌, not, nat_lt, ℕ, Bool, false, List, map, slice_index_or}
use Rattle.std.specs.List.{list_any}
use Rattle.mum_base.specs.declared.number.AccountId.{AccountId}
use Rattle.mum_policy.specs.declared.policy.ChannelPolicy.{ChannelPolicy}
use Rattle.mum_tree.specs.declared.channel.Row.{Row}
use Rattle.mum_tree.specs.Places.{has_place}
use Rattle.mum_users.specs.Order.{Rises}
use Rattle.mum_state.specs.declared.account.Account.{Account}
use Rattle.mum_state.specs.State.{PolicyRow, is_numbered, open_policy}

-- the policy of each channel lies at the channel's place
abbrev pub policies_by_place : List ChannelPolicy → List Row → List PolicyRow
policies_by_place stored rows =
    map (λ row. record { channel = row.channel.id; policy = slice_index_or stored row.place open_policy }) rows

-- a channel had the place before, as these marks say, and none has it now
abbrev pub is_left : List Bool → List Row → ℕ → Bool
is_left before rows place = slice_index_or before place false && not (has_place rows place)

abbrev pub number_below : AccountId → AccountId → Bool
number_below one other = nat_lt one.0 other.0

-- these are the numbers of the accounts, and they rise
pub record AreNumbers (numbers : List AccountId) (accounts : List Account) : Type 0 where
  pub rise : Rises number_below numbers
  pub same : (number : AccountId) → list_any (λ one. one.0 == number.0) numbers ≡ list_any (is_numbered number) accounts
