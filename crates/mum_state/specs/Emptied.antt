-- Temporary channels that go because their last member left.
use Rattle.std.specs.Prelude.{◌&&◌, not, Bool, List, filter}
use Rattle.std.specs.List.{list_any}
use Rattle.mum_base.specs.declared.number.ChannelId.{ChannelId}
use Rattle.mum_tree.specs.declared.channel.Row.{Row}
use Rattle.mum_tree.specs.State.{without_rows}
use Rattle.mum_users.specs.declared.user.User.{User}
use Rattle.mum_users.specs.State.{is_in}
use Rattle.mum_state.specs.{Set.with_tree, State.StateValue}

-- somebody is in the channel
abbrev pub has_member : List User → ChannelId → Bool
has_member users channel = list_any (is_in channel) users

-- it is temporary, and somebody was in it, and nobody is
abbrev pub is_emptied : List User → List User → Row → Bool
is_emptied before after row =
    row.channel.temporary && has_member before row.channel.id && not (has_member after row.channel.id)

-- there is such a channel
abbrev pub empties : StateValue → StateValue → Bool
empties before state = list_any (is_emptied before.roster.sessions state.roster.sessions) state.tree.channels

-- such a channel goes, with its links, its listeners and its policy. Nothing is below a temporary channel
abbrev pub without_emptied : StateValue → StateValue → StateValue
without_emptied before state =
    with_tree state
    (without_rows state.tree
    (filter (λ row. not (is_emptied before.roster.sessions state.roster.sessions row)) state.tree.channels))
