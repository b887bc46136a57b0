-- Who goes, and that nobody comes, by a message of a session on users.
use Rattle.std.specs.Prelude.{◌≡◌, ◌⊎◌, ℕ, ◌||◌, true, List, Some, None, IsTrue}
use Rattle.mum_base.specs.declared.number.{SessionId.SessionId, TheConstants.ChannelId.ROOT}
use Rattle.mum_base.specs.declared.perm.TheConstants.Perm.{BAN, KICK}
use Rattle.mum_users.specs.Sessions.{session_of}
use Rattle.mum_users.specs.declared.user.User.{User}
use Rattle.mum_msg_state.specs.declared.user_remove.UserRemove.{UserRemove}
use Rattle.mum_state.specs.State.{StateValue}
use Rattle.mum_state.specs.declared.{edit.Edit.TheVariants.Kick as Kicks, verdict.Verdict.TheVariants.Accepted}
use Rattle.mum_rules_user.specs.Verdict.{user_verdict}
use Rattle.mum_rules_user.specs.declared.message.UserMessage.{UserMessage, TheVariants.Kick, TheVariants.Leave}
use Rattle.mum_rights_laws.specs.{Rights.may, Speech.SparesSuperUser, UserCommands.OfUserCommands}

-- the message names the session, and the actor has Kick or Ban on the root
abbrev pub IsKicked : StateValue → User → UserMessage → User → Type 0
IsKicked before own message user =
    ((named : UserRemove) × (message ≡ Kick named) × (named.session ≡ Some user.session.0))
    × IsTrue (may before own KICK ROOT || may before own BAN ROOT) × SparesSuperUser own user

-- whoever goes leaves by itself or is kicked
abbrev pub GoesWherePermitted : Type 0
GoesWherePermitted = OfUserCommands (λ before after own tokens message. (session : SessionId) (was : User)
    → session_of before.roster session ≡ Some was → session_of after.roster session ≡ None
    → ((was.session ≡ own.session) × (message ≡ Leave)) ⊎ IsKicked before own message was)

-- whoever makes a kick that is a ban has Ban on the root
abbrev pub BansWherePermitted : Type 0
BansWherePermitted =
    (before : StateValue) (actor : SessionId) (message : UserMessage) (session by : SessionId) (reason : List ℕ)
    → user_verdict before (Some actor) message ≡ Accepted (Kicks session by reason true)
    → (own : User) × (session_of before.roster actor ≡ Some own) × IsTrue (may before own BAN ROOT)

-- whoever is there after it was there before
abbrev pub NobodyComes : Type 0
NobodyComes = OfUserCommands (λ before after own tokens message. (session : SessionId) (now : User)
    → session_of after.roster session ≡ Some now → (was : User) × (session_of before.roster session ≡ Some was))
