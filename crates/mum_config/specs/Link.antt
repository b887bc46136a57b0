-- Links.
use Rattle.std.specs.Prelude.{◌≡◌, ℕ, ◌==◌, ◌&&◌, ◌||◌, nat_le, not, Bool, true, List, [], ◌∷◌, ◌++◌, min, max, Option, Some, None, is_none, count_by, unwrap_or, if◌then◌else◌}
use Rattle.std.specs.{List.list_any, Map.lookup, Option.option_map_or}
use Rattle.serde_json.specs.Data.{Data}
use Rattle.mum_tree.specs.declared.links.TheConstants.{CHANNEL_LINK_LIMIT}
use Rattle.mum_state.specs.declared.edit.Edit.{Edit, TheVariants.EditChannel}
use Rattle.mum_document.specs.declared.fault.ConfigFault.TheVariants.{Limit, NoSuch, WrongKind}
use Rattle.mum_document.specs.Value.{elements_of, greatest, number_fault, number_of}
use Rattle.mum_document.specs.Fault.{Fault, against, or_else, place_text, within}
use Rattle.mum_config.specs.Channel.{depth_of}

-- two different channels, the lesser first
abbrev pub Ends : Type 0
Ends = ℕ × ℕ

abbrev pub ends_of : ℕ → ℕ → Ends
ends_of a b = (min a b, max a b)

abbrev pub are_same : Ends → Ends → Bool
are_same ends other = (ends.0 == other.0) && (ends.1 == other.1)

abbrev pub is_end : ℕ → Ends → Bool
is_end channel ends = (channel == ends.0) || (channel == ends.1)

-- the link joins two channels that no link joins yet
abbrev pub is_new : List Ends → ℕ → ℕ → Bool
is_new met a b = not (a == b) && not (list_any (are_same (ends_of a b)) met)

-- how many channels links join to this one
abbrev pub link_count : List Ends → ℕ → ℕ
link_count met channel = count_by (is_end channel) met

-- one of the two has all the links that a channel may have
abbrev pub is_crowded : List Ends → ℕ → ℕ → Bool
is_crowded met a b = nat_le CHANNEL_LINK_LIMIT (link_count met a) || nat_le CHANNEL_LINK_LIMIT (link_count met b)

-- the link is one too many of one of the two
abbrev pub crowding_fault : List Ends → ℕ → ℕ → Option Fault
crowding_fault met a b = against Limit (is_new met a b && is_crowded met a b)

-- what is kept for each channel is how many channels links join to it
abbrev pub AreCounted : List (ℕ × ℕ) → List Ends → Type 0
AreCounted counts met = (channel : ℕ) → unwrap_or (lookup (λ kept. channel == kept) counts) 0 ≡ link_count met channel

abbrev pub pair_in : List Data → Option (Data × Data)
pair_in (from ∷ to ∷ []) = Some (from, to)
pair_in values = None

-- the two values of a pair
abbrev pub pair_of : Data → Option (Data × Data)
pair_of value = pair_in (elements_of value)

abbrev pub first_end : Data → ℕ
first_end value = option_map_or (λ pair. number_of pair.0) (pair_of value) 0

abbrev pub second_end : Data → ℕ
second_end value = option_map_or (λ pair. number_of pair.1) (pair_of value) 0

-- a channel of a pair, among channels of these depths
abbrev pub end_fault : List (ℕ × ℕ) → Data → Option Fault
end_fault depths value =
    or_else (number_fault 0 greatest value) (against NoSuch (is_none (depth_of depths (number_of value))))

-- the two one after the other, and then the limit
abbrev pub ends_fault : List (ℕ × ℕ) → List Ends → Data × Data → Option Fault
ends_fault depths met pair =
    or_else (within (place_text 0) (end_fault depths pair.0))
    (or_else (within (place_text 1) (end_fault depths pair.1))
    (crowding_fault met (number_of pair.0) (number_of pair.1)))

unfoldable pub link_fault : List (ℕ × ℕ) → List Ends → Data → Option Fault
link_fault depths met value = option_map_or (ends_fault depths met) (pair_of value) (against WrongKind true)

-- the link is met
abbrev pub with_ends : List Ends → ℕ → ℕ → List Ends
with_ends met a b = if is_new met a b then met ++ ends_of a b ∷ [] else met

unfoldable pub with_link_met : List Ends → Data → List Ends
with_link_met met value = with_ends met (first_end value) (second_end value)

abbrev pub join_edit : ℕ → ℕ → Edit
join_edit a b = EditChannel (record { 0 = a }) None None None None None None ((record { 0 = b }) ∷ []) []

unfoldable pub link_edit : Data → Edit
link_edit value = join_edit (first_end value) (second_end value)
