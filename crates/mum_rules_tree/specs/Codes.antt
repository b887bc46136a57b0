-- For what a command is denied that the tree of channels would refuse.
use Rattle.std.specs.Prelude.{Bool, true, false, Option, Some, None}
use Rattle.mum_base.specs.declared.outcome.DenyType.{DenyType}
use Rattle.mum_base.specs.declared.outcome.DenyType.TheVariants.{Text, ChannelName, TemporaryChannel, NestingLimit, ChannelCountLimit}
use Rattle.mum_tree.specs.declared.fault.TreeFault.{TreeFault}
use Rattle.mum_tree.specs.declared.fault.TreeFault.TheVariants.{NoChannel, SameName, UnderItself, Nesting, Count, RootFixed, TemporaryParent, LinkCount, OutOfMemory}

-- for what a command is denied that the tree would refuse; no decision is about a channel that is not there
abbrev pub deny_type_of : TreeFault → DenyType
deny_type_of NoChannel = Text
deny_type_of SameName = ChannelName
deny_type_of UnderItself = Text
deny_type_of Nesting = NestingLimit
deny_type_of Count = ChannelCountLimit
deny_type_of RootFixed = Text
deny_type_of TemporaryParent = TemporaryChannel
deny_type_of LinkCount = Text
deny_type_of OutOfMemory = Text

-- it is the root that stays as it is
abbrev pub is_of_root : Option TreeFault → Bool
is_of_root (Some RootFixed) = true
is_of_root cause = false

-- nothing is said against a channel but for its links, if anything is
abbrev pub is_of_links : Option TreeFault → Bool
is_of_links None = true
is_of_links (Some LinkCount) = true
is_of_links cause = false
