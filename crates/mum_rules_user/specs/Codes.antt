-- For what is denied, and for what rejected, what the roster would refuse.
use Rattle.mum_base.specs.declared.outcome.DenyType.{DenyType}
use Rattle.mum_base.specs.declared.outcome.DenyType.TheVariants.{ChannelListenerLimit, Text, UserListenerLimit}
use Rattle.mum_base.specs.declared.outcome.RejectType.{RejectType, TheVariants.UsernameInUse, TheVariants.ServerFull}
use Rattle.mum_users.specs.declared.fault.UserFault.{UserFault}
use Rattle.mum_users.specs.declared.fault.UserFault.TheVariants.{NameInUse, ListenerLimit, UserListenerLimit as UserListens}

-- for what listening is denied; a roster refuses it for nothing else where the session is here
abbrev pub listening_type_of : UserFault → DenyType
listening_type_of ListenerLimit = ChannelListenerLimit
listening_type_of UserListens = UserListenerLimit
listening_type_of fault = Text

-- for what a login is refused: its name is in use, or no seat is left
abbrev pub reject_type_of : UserFault → RejectType
reject_type_of NameInUse = UsernameInUse
reject_type_of fault = ServerFull
