-- The limits of each command on channels, in order, each with the type of its denial.
use Rattle.std.specs.Prelude.{ℕ, ◌&&◌, ◌||◌, not, nat_le, Bool, List, [], ◌∷◌, length, map, Option, Some, is_none, unwrap_or, if◌then◌else◌}
use Rattle.std.specs.{List.list_all, List.list_any, Option.option_map}
use Rattle.mum_base.specs.declared.number.{ChannelId.ChannelId, TheConstants.ChannelId.ROOT}
use Rattle.mum_base.specs.declared.outcome.DenyType.{DenyType}
use Rattle.mum_base.specs.declared.outcome.DenyType.TheVariants.{ChannelCountLimit, ChannelName, NestingLimit, TemporaryChannel, Text, TextTooLong}
use Rattle.mum_policy.specs.declared.policy.ChannelPolicy.{ChannelPolicy}
use Rattle.mum_policy.specs.Limits.{is_large_policy}
use Rattle.mum_tree.specs.declared.{channel.TheConstants.PATH_LIMIT, fault.TreeFault.TreeFault}
use Rattle.mum_tree.specs.Change.{Change, name_after, overlinks, parent_after, renames_or_moves}
use Rattle.mum_tree.specs.{Refusals.is_full, State.TreeState, State.next_number}
use Rattle.mum_tree.specs.Rows.{is_below, is_root, is_taken, is_temporary, nests, path}
use Rattle.mum_state.specs.{Fits.holds_of_given, Proper.is_name, Proper.is_text, State.StateValue}
use Rattle.mum_rules_tree.specs.Asked.{Command, change_asked, parent_of_new, text_or_empty}
use Rattle.mum_rules_tree.specs.Codes.{deny_type_of, is_of_links, is_of_root}
use Rattle.mum_rules_tree.specs.{Decision.Case, Decision.case_of, Policy.has_twice, Policy.policy_asked}

-- the number of a new channel; where none is left, that of the root, which is the child of none
abbrev pub new_number : TreeState → ChannelId
new_number tree = unwrap_or (next_number tree) ROOT

-- there are as many channels as there can be, or no number is left for a new one
abbrev pub takes_no_channels : TreeState → Bool
takes_no_channels tree = is_full tree || is_none (next_number tree)

abbrev pub limits_of_new : TreeState → ChannelId → List ℕ → List ℕ → List (Case DenyType)
limits_of_new tree parent name description =
    case_of ChannelName (not (is_name name) || is_taken tree.channels parent (new_number tree) name)
    ∷ case_of TemporaryChannel (is_temporary tree.channels parent)
    ∷ case_of NestingLimit (nat_le PATH_LIMIT (length (path tree.channels parent)))
    ∷ case_of ChannelCountLimit (takes_no_channels tree)
    ∷ case_of TextTooLong (not (is_text description))
    ∷ []

-- a change before any link goes
abbrev pub without_parting : Change → Change
without_parting change = record change { links_remove = [] }

-- of another name or another parent, then of the description, and then of links, of which all that come are counted and
-- none that goes
abbrev pub limits_of_change : TreeState → ChannelId → Change → List (Case DenyType)
limits_of_change tree id change =
    let name : List ℕ = name_after tree id change in
    let parent : ChannelId = parent_after tree id change in
    let renamed_or_moved : Bool = renames_or_moves tree id change in
    case_of Text (renamed_or_moved && is_root id)
    ∷ case_of ChannelName
    (not (holds_of_given is_name change.name) || (renamed_or_moved && is_taken tree.channels parent id name))
    ∷ case_of Text (renamed_or_moved && is_below tree.channels id parent)
    ∷ case_of TemporaryChannel (renamed_or_moved && is_temporary tree.channels parent)
    ∷ case_of NestingLimit (renamed_or_moved && list_any (nests tree.channels id parent) tree.channels)
    ∷ case_of TextTooLong (not (holds_of_given is_text change.description))
    ∷ case_of Text (overlinks tree id (without_parting change))
    ∷ []

-- the same limits by what the tree says against the change: it tests neither its name, which comes after the root, nor
-- its description, which comes before links
abbrev pub limit_by_cause : Option TreeFault → Bool → Bool → Option DenyType
limit_by_cause cause named short =
    if not (is_of_root cause) && not named then Some ChannelName
    else if is_of_links cause && not short then Some TextTooLong
    else option_map deny_type_of cause

-- the root stays
abbrev pub limits_of_removal : ChannelId → List (Case DenyType)
limits_of_removal id = case_of Text (is_root id) ∷ []

-- it is within all limits, each group has a good name, and no two have one
abbrev pub limits_of_policy : ChannelPolicy → List (Case DenyType)
limits_of_policy policy =
    case_of Text (is_large_policy policy)
    ∷ case_of Text (not (list_all (λ group. is_name group.name) policy.groups))
    ∷ case_of Text (has_twice (map (λ group. group.name) policy.groups))
    ∷ []

abbrev pub limits : StateValue → Command → List (Case DenyType)
limits state (Command.make message) =
    limits_of_new state.tree (parent_of_new message) (text_or_empty message.name) (text_or_empty message.description)
limits state (Command.edit id message) = limits_of_change state.tree id (change_asked state.tree id message)
limits state (Command.remove id) = limits_of_removal id
limits state (Command.query id) = []
limits state (Command.set id message) = limits_of_policy (policy_asked message)
