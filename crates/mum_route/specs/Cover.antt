-- Which channels a packet covers: "Linked channels" and "Voice targets" of the Murmur manual.
use Rattle.std.specs.Prelude.{Bool, List, [], ◌∷◌, ◌++◌, filter, if◌then◌else◌}
use Rattle.std.specs.Option.{option_map_or}
use Rattle.mum_base.specs.declared.number.ChannelId.{ChannelId}
use Rattle.mum_base.specs.declared.perm.TheConstants.Perm.{SPEAK, WHISPER}
use Rattle.mum_tree.specs.{Rows.is_there, State.TreeState, State.below, Walks.linked}
use Rattle.mum_users.specs.declared.{target.TargetItem.TargetItem, user.User.User}
use Rattle.mum_state.specs.State.{StateValue}
use Rattle.mum_route.specs.Hearing.{may}

-- talk covers the speaker's channel and all that links lead to from it, where the speaker may speak
abbrev pub talk : StateValue → User → List ChannelId
talk state speaker = filter (may state speaker.session SPEAK) (linked state.tree speaker.channel)

-- a channel, with `links` all that links lead to from it, and with `children` all below it
abbrev pub spread : TreeState → Bool → Bool → ChannelId → List ChannelId
spread tree links children channel =
    channel ∷ (if links then linked tree channel else []) ++ (if children then below tree channel else [])

-- an item covers the channels that it names, where the speaker may whisper; a channel that is gone covers nothing
abbrev pub cover : StateValue → User → TargetItem → List ChannelId
cover state speaker item = option_map_or
    (λ channel. if is_there state.tree.channels channel
    then filter (may state speaker.session WHISPER) (spread state.tree item.links item.children channel)
    else [])
    item.channel []
