-- The edits that make the channels of kept rows again.
use Rattle.std.specs.Prelude.{ℕ, ◌==◌, ◌&&◌, not, pos, Bool, false, List, [], ◌∷◌, ◌++◌, filter, map, Option, Some, None, if◌then◌else◌}
use Rattle.std.specs.{Fmt.decimal, Ordering.int_eq}
use Rattle.mum_base.specs.declared.number.{ChannelId.ChannelId, TheConstants.ChannelId.ROOT}
use Rattle.mum_tree.specs.declared.channel.ChannelInfo.{ChannelInfo}
use Rattle.mum_tree.specs.{Refusals.name_of, Refusals.parent_of, Rows.is_root, State.Pair, State.TreeState}
use Rattle.mum_state.specs.declared.edit.Edit.{Edit}
use Rattle.mum_state.specs.declared.edit.Edit.TheVariants.{EditChannel, MakeChannel, SetAcl}
use Rattle.mum_state.specs.Kinds.{is_empty}
use Rattle.mum_notify.specs.Sync.{tree_order}
use Rattle.mum_kept.specs.declared.rows.{KeptChannel.KeptChannel, KeptRows.KeptRows}
use Rattle.mum_kept.specs.{Policy.policy_in, Prefix.free_prefix, Rows.below_root, Rows.is_top, Rows.tree_of}

-- makes the channel under the root, under a name that none of the kept channels has
abbrev pub make_edit : List ℕ → KeptChannel → Edit
make_edit prefix channel = MakeChannel channel.id ROOT (prefix ++ decimal channel.id.0) false channel.info None

abbrev pub make_edits : List KeptChannel → List Edit
make_edits channels = map (make_edit (free_prefix channels)) (below_root channels)

-- the parent, where it is not the root
abbrev pub parent_below_root : ChannelId → Option ChannelId
parent_below_root parent = if is_root parent then None else Some parent

-- gives the channel its name and its parent
abbrev pub place_edit : TreeState → ChannelId → Edit
place_edit tree id = EditChannel id None (Some (name_of tree id)) (parent_below_root (parent_of tree id)) None None None [] []

-- each channel after its parent
abbrev pub place_edits : List KeptChannel → List Edit
place_edits channels =
    let tree : TreeState = tree_of channels in
    map (place_edit tree) (filter (λ id. not (is_root id)) (tree_order tree))

-- nothing describes the channel
abbrev pub is_plain : ChannelInfo → Bool
is_plain info = is_empty info.description && int_eq info.position (pos 0) && (info.max_users == 0)

-- describes the root
abbrev pub info_edit : ChannelInfo → Edit
info_edit info =
    EditChannel ROOT None None None (Some info.description) (Some info.position) (Some info.max_users) [] []

-- it is the root, and something describes it
abbrev pub describes_root : KeptChannel → Bool
describes_root channel = is_top channel && not (is_plain channel.info)

abbrev pub info_edits : List KeptChannel → List Edit
info_edits channels = map (λ channel. info_edit channel.info) (filter describes_root channels)

abbrev pub link_edit : Pair → Edit
link_edit pair = EditChannel pair.0 None None None None None None (pair.1 ∷ []) []

abbrev pub policy_edit : KeptChannel → Edit
policy_edit channel = SetAcl channel.id None (policy_in channel.policy)

-- the channels are made under names that are free, then get their own names and places, then the root is described,
-- then links join them, and then each gets its policy
abbrev pub rebuild : KeptRows → List Edit
rebuild rows =
    make_edits rows.channels ++ place_edits rows.channels ++ info_edits rows.channels
    ++ map link_edit rows.links ++ map policy_edit rows.channels
