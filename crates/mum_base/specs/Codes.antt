-- The numbers under which reasons to ignore a command, denials and rejections are reported.
use Rattle.std.specs.Prelude.{ℕ}
use Rattle.mum_base.specs.declared.outcome.{Reason.Reason, DenyType.DenyType, RejectType.RejectType}
use Rattle.mum_base.specs.declared.outcome.Reason.TheVariants.{NotRead, Malformed, NotLoggedIn, NotThere, OfAnother, EmptyText, TooLong, Gone}
use Rattle.mum_base.specs.declared.outcome.DenyType.TheVariants.{Text, Permission, SuperUser, ChannelName, TextTooLong, TemporaryChannel, ChannelFull, NestingLimit, ChannelCountLimit, ChannelListenerLimit, UserListenerLimit}
use Rattle.mum_base.specs.declared.outcome.RejectType.TheVariants.{WrongVersion, InvalidUsername, WrongUserPW, WrongServerPW, UsernameInUse, ServerFull}

-- 1 and 2 are for frames that are no command
abbrev pub reason_code : Reason → ℕ
reason_code NotRead = 1
reason_code Malformed = 2
reason_code NotLoggedIn = 3
reason_code NotThere = 4
reason_code OfAnother = 5
reason_code EmptyText = 6
reason_code TooLong = 7
reason_code Gone = 8

-- PermissionDenied.DenyType of Mumble.proto
abbrev pub deny_code : DenyType → ℕ
deny_code Text = 0
deny_code Permission = 1
deny_code SuperUser = 2
deny_code ChannelName = 3
deny_code TextTooLong = 4
deny_code TemporaryChannel = 6
deny_code ChannelFull = 9
deny_code NestingLimit = 10
deny_code ChannelCountLimit = 11
deny_code ChannelListenerLimit = 12
deny_code UserListenerLimit = 13

-- Reject.RejectType of Mumble.proto
abbrev pub reject_code : RejectType → ℕ
reject_code WrongVersion = 1
reject_code InvalidUsername = 2
reject_code WrongUserPW = 3
reject_code WrongServerPW = 4
reject_code UsernameInUse = 5
reject_code ServerFull = 6
