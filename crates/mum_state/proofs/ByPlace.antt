-- The policy of a channel lies at the channel's place.
use Rattle.mum_state.proofs.Common.{◌≡◌, ℕ, suc, ◌==◌, ◌<◌, Bool, true, false, List, [], ◌∷◌, find, length, get_or, refl, sym, ap, ◌∙◌, arith, Option, Some, None, unwrap_or, slice_index_or, if◌then◌else◌, is_some, IsSome, IsTrue, get_or_default, none-some, false≢true, All, option_map, ChannelId, ChannelPolicy, Row, is_there, row_of, ChannelsState, policy_map, PolicyRow, open_policy, policies_by_place}

-- a policy lies at the place of each channel
abbrev pub ArePlaced : List ChannelPolicy → List Row → Type 0
ArePlaced stored rows = All (λ row. row.place < length stored) rows

abbrev pub stored_at : List ChannelPolicy → Row → ChannelPolicy
stored_at stored row = slice_index_or stored row.place open_policy

abbrev pub laid : List ChannelPolicy → Row → PolicyRow
laid stored row = record { channel = row.channel.id; policy = stored_at stored row }

first_of_two : (stored : List ChannelPolicy) (is : Bool) (row : Row) (later : Option PolicyRow) (rest : Option Row)
    → option_map (λ policy. policy.policy) later ≡ option_map (stored_at stored) rest
    → option_map (λ (policy : PolicyRow). policy.policy) (if is then Some (laid stored row) else later) ≡ option_map (stored_at stored) (if is then Some row else rest)
first_of_two stored true row later rest same = refl
first_of_two stored false row later rest same = same

-- the policy of the channel is the one at the place of its row
pub policy_by_place : (stored : List ChannelPolicy) (rows : List Row) (id : ChannelId)
    → option_map (λ row. row.policy) (find (λ row. row.channel.0 == id.0) (policies_by_place stored rows)) ≡ option_map (stored_at stored) (row_of rows id)
policy_by_place stored [] id = refl
policy_by_place stored (row ∷ rows) id =
    first_of_two stored (row.channel.id.0 == id.0) row _ (row_of rows id) (policy_by_place stored rows id)

-- a value holds these policies: the channel's is the one at the place of its row
pub policy_in : (channels : ChannelsState) (stored : List ChannelPolicy) (rows : List Row) (id : ChannelId) → policies_by_place stored rows ≡ channels.policies
    → policy_map channels id ≡ option_map (stored_at stored) (row_of rows id)
policy_in channels stored rows id same = rw (sym same) (policy_by_place stored rows id)

at_place : (stored : List ChannelPolicy) (row : Option Row) (place : ℕ) → option_map (λ row. row.place) row ≡ Some place
    → option_map (stored_at stored) row ≡ Some (slice_index_or stored place open_policy)
at_place stored None place is = absurd (none-some place is)
at_place stored (Some row) place is = ap (λ (p : Option ℕ). Some (slice_index_or stored (unwrap_or p 0) open_policy)) is

-- the policy that lies at a channel's place is the channel's
pub policy_found : (channels : ChannelsState) (stored : List ChannelPolicy) (rows : List Row) (id : ChannelId) (place : ℕ) (policy : ChannelPolicy)
    → policies_by_place stored rows ≡ channels.policies → option_map (λ row. row.place) (row_of rows id) ≡ Some place
    → place < length stored → policy ≡ get_or stored place policy
    → Some policy ≡ policy_map channels id
policy_found channels stored rows id place policy same is within here =
    sym (policy_in channels stored rows id same ∙ at_place stored (row_of rows id) place is
    ∙ ap (λ (p : ChannelPolicy). Some p) (get_or_default stored place open_policy policy within ∙ sym here))

no_place : (stored : List ChannelPolicy) (row : Option Row) → option_map (λ row. row.place) row ≡ None → option_map (stored_at stored) row ≡ None
no_place stored None none = refl
no_place stored (Some row) none = absurd (none-some row.place (sym none))

-- a channel without a place has none
pub policy_missing : (channels : ChannelsState) (stored : List ChannelPolicy) (rows : List Row) (id : ChannelId)
    → policies_by_place stored rows ≡ channels.policies → option_map (λ row. row.place) (row_of rows id) ≡ None → None ≡ policy_map channels id
policy_missing channels stored rows id same none = sym (policy_in channels stored rows id same ∙ no_place stored (row_of rows id) none)

one_of_two : (bound : ℕ) (is : Bool) (row : Row) (rest : Option Row) (place : ℕ) → row.place < bound → (option_map (λ row. row.place) rest ≡ Some place → place < bound)
    → option_map (λ (row : Row). row.place) (if is then Some row else rest) ≡ Some place → place < bound
one_of_two bound true row rest place first later found =
    let same : row.place ≡ place = ap (λ (p : Option ℕ). unwrap_or p 0) found in omega arith
one_of_two bound false row rest place first later found = later found

-- a policy lies at the place of each channel that has one
pub place_within : (stored : List ChannelPolicy) (rows : List Row) (id : ChannelId) (place : ℕ) → ArePlaced stored rows
    → option_map (λ row. row.place) (row_of rows id) ≡ Some place → place < length stored
place_within stored [] id place placed found = absurd (none-some place found)
place_within stored (row ∷ rows) id place placed found =
    one_of_two (length stored) (row.channel.id.0 == id.0) row (row_of rows id) place (placed 0 row (omega arith))
    (place_within stored rows id place (λ k d within. placed (suc k) d (omega arith))) found

some_stored : (stored : List ChannelPolicy) (row : Option Row) → IsTrue (is_some row) → IsSome (option_map (stored_at stored) row)
some_stored stored None there = absurd (false≢true there)
some_stored stored (Some row) there = refl

-- each channel that is there has a policy
pub policy_there : (channels : ChannelsState) (stored : List ChannelPolicy) (rows : List Row) (id : ChannelId)
    → policies_by_place stored rows ≡ channels.policies → IsTrue (is_there rows id) → IsSome (policy_map channels id)
policy_there channels stored rows id same there = rw (policy_in channels stored rows id same) (some_stored stored (row_of rows id) there)
