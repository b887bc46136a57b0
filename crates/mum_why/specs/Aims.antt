-- What the code's aims say.
use Rattle.std.specs.Prelude.{◌≡◌, ◌&&◌, List, IfSome, IsTrue}
use Rattle.mum_base.specs.declared.number.ChannelId.{ChannelId}
use Rattle.mum_tree.specs.{Rows.is_there, State.TreeState, Walks.linked}
use Rattle.mum_why.specs.declared.aim.Aim.{Aim}
use Rattle.mum_why.specs.Reason.{Aimed}

abbrev pub aimed : Aim → Aimed
aimed aim = record {
  speaker = aim.speaker;
  permission = aim.permission;
  top = aim.top;
  links = aim.links;
  children = aim.children;
  group = aim.group.now;
}

-- the marks are of the channels that links lead to from where it spreads, if it spreads over links
abbrev pub IsMarked : TreeState → Aimed → List ChannelId → Type 0
IsMarked tree aim marks =
    IfSome aim.top (λ top. IsTrue (aim.links && is_there tree.channels top) → marks ≡ linked tree top)
