-- Who is muted, deafened, suppressed or made a priority speaker by a message on users.
use Rattle.std.specs.Prelude.{◌≡◌, ◌≢◌, ◌⊎◌, ℕ, not, false, List, Option, Some, IsTrue}
use Rattle.mum_base.specs.declared.number.TheConstants.AccountId.{SUPER_USER}
use Rattle.mum_base.specs.declared.perm.TheConstants.Perm.{MUTE_DEAFEN, SPEAK}
use Rattle.mum_users.specs.declared.user.User.{User}
use Rattle.mum_msg_state.specs.declared.authenticate.Authenticate.{Authenticate}
use Rattle.mum_state.specs.State.{StateValue}
use Rattle.mum_rules_user.specs.declared.message.UserMessage.{UserMessage, TheVariants.Join}
use Rattle.mum_rights_laws.specs.{Rights.may, Rights.may_with, Standing.OfStaying}
use Rattle.mum_rights_laws.specs.UserCommands.{IsAbout, OfUserCommands}

-- nobody but SuperUser itself does it to SuperUser
abbrev pub SparesSuperUser : User → User → Type 0
SparesSuperUser own user = user.account ≡ Some SUPER_USER → user.session ≡ own.session

-- the message is about the session, and the actor has MuteDeafen where it is before
abbrev pub MayRuleSpeech : StateValue → User → List (List ℕ) → UserMessage → User → Type 0
MayRuleSpeech before own tokens message user =
    IsAbout own message user × IsTrue (may_with before own tokens MUTE_DEAFEN user.channel) × SparesSuperUser own user

-- a session is muted, deafened and a priority speaker as it was, or the actor may rule its speech
abbrev pub SpeechIsRuledWherePermitted : Type 0
SpeechIsRuledWherePermitted = OfUserCommands (λ before after own tokens message. OfStaying before after (λ was now.
    ((now.mute ≡ was.mute) × (now.deaf ≡ was.deaf) × (now.priority ≡ was.priority))
    ⊎ MayRuleSpeech before own tokens message was))

-- the session logs in again, with other tokens
abbrev pub LogsInAgain : User → UserMessage → User → Type 0
LogsInAgain own message user =
    (user.session ≡ own.session) × ((login : Authenticate) × (version : Option ℕ) × (message ≡ Join login version))

-- A session is suppressed as it was; or it is not, and the actor may rule its speech; or it is exactly where it may not
-- speak, and it is in another channel or logs in again.
abbrev pub SuppressionIsRuledWherePermitted : Type 0
SuppressionIsRuledWherePermitted = OfUserCommands (λ before after own tokens message. OfStaying before after (λ was now.
    (now.suppress ≡ was.suppress)
    ⊎ (((now.suppress ≡ false) × MayRuleSpeech before own tokens message was)
    ⊎ ((now.suppress ≡ not (may after now SPEAK now.channel))
    × ((now.channel ≢ was.channel) ⊎ LogsInAgain own message was)))))
