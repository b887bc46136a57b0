-- What a message on channels changes of sessions.
use Rattle.std.specs.Prelude.{◌≡◌, ◌≢◌, ◌⊎◌, ◌↔◌, not, false, None, IsTrue}
use Rattle.mum_base.specs.declared.number.{ChannelId.ChannelId, SessionId.SessionId}
use Rattle.mum_base.specs.declared.perm.TheConstants.Perm.{SPEAK, WRITE}
use Rattle.mum_tree.specs.{Refusals.parent_of, Rows.is_below, Rows.is_temporary, Rows.is_there}
use Rattle.mum_users.specs.Sessions.{session_of}
use Rattle.mum_users.specs.declared.user.User.{User}
use Rattle.mum_state.specs.State.{StateValue}
use Rattle.mum_rules_tree.specs.declared.message.TreeMessage.{TreeMessage}
use Rattle.mum_rights_laws.specs.Rights.{may}
use Rattle.mum_rights_laws.specs.TreeCommands.{AsksForPolicy, AsksToRemove, OfTreeCommands}
use Rattle.mum_rights_laws.specs.Standing.{AimsAsBefore, IsSetAsBefore, ListensAsBefore, OfStaying}

-- the actor removes a channel, on which it has Write, and which is the session's or above it: the session is then in the
-- parent of the one that is removed
abbrev pub IsMovedUp : StateValue → StateValue → User → TreeMessage → User → ChannelId → Type 0
IsMovedUp before after own message user there =
    (top : ChannelId) × AsksToRemove message top × IsTrue (may before own WRITE top)
    × IsTrue (is_below before.tree.channels top user.channel) × (is_there after.tree.channels top ≡ false)
    × (there ≡ parent_of before.tree top)

-- the session is the actor's, and is in a temporary channel that was not there
abbrev pub EntersWhatItMade : StateValue → StateValue → User → User → ChannelId → Type 0
EntersWhatItMade before after own user there =
    (user.session ≡ own.session) × (is_there before.tree.channels there ≡ false)
    × IsTrue (is_temporary after.tree.channels there)

-- of no session anything changes but its channel, which is there, and whether it is suppressed
abbrev pub ResidentsKeepTheirOwn : Type 0
ResidentsKeepTheirOwn = OfTreeCommands (λ before after own message. OfStaying before after (λ was now.
    (now ≡ record was { channel = now.channel; suppress = now.suppress })
    × IsTrue (is_there after.tree.channels now.channel)
    × ListensAsBefore before after was.session × AimsAsBefore before after was.session))

-- a session stays in its channel, or is moved out of one that is removed, or enters one that it made
abbrev pub ResidentsStay : Type 0
ResidentsStay = OfTreeCommands (λ before after own message. OfStaying before after (λ was now.
    (now.channel ≡ was.channel)
    ⊎ (IsMovedUp before after own message was now.channel ⊎ EntersWhatItMade before after own was now.channel)))

-- a session is suppressed as it was; or exactly where it may not speak, and it is in another channel or a policy is set
abbrev pub ResidentsAreHeard : Type 0
ResidentsAreHeard = OfTreeCommands (λ before after own message. OfStaying before after (λ was now.
    (now.suppress ≡ was.suppress)
    ⊎ ((now.suppress ≡ not (may after now SPEAK now.channel))
    × ((now.channel ≢ was.channel) ⊎ ((id : ChannelId) × AsksForPolicy message id)))))

-- nobody comes and nobody goes
abbrev pub NobodyComesOrGoes : Type 0
NobodyComesOrGoes = OfTreeCommands (λ before after own message. (session : SessionId)
    → (session_of after.roster session ≡ None) ↔ (session_of before.roster session ≡ None))

-- the settings of the server, its accounts and its limits stay
abbrev pub TheServerStays : Type 0
TheServerStays = OfTreeCommands (λ before after own message. IsSetAsBefore before after)
