-- What nobody changes of another session by a message on users, and what nobody changes at all.
use Rattle.std.specs.Prelude.{◌≡◌, ◌≢◌, ◌⊎◌, IsTrue}
use Rattle.mum_base.specs.declared.{number.ChannelId.ChannelId, perm.TheConstants.Perm.LISTEN}
use Rattle.mum_users.specs.Listeners.{listens}
use Rattle.mum_rights_laws.specs.{Rights.may_with, Standing.AimsAsBefore, Standing.ListensAsBefore, Standing.OfStaying}
use Rattle.mum_rights_laws.specs.UserCommands.{OfUserCommands}

-- of another session nothing changes but its channel and whether it is muted, deafened, suppressed and a priority speaker:
-- its name, account, slot, tokens, own flags and texts stay, and to what it listens and its voice targets
abbrev pub OthersKeepTheirOwn : Type 0
OthersKeepTheirOwn =
    OfUserCommands (λ before after own tokens message. OfStaying before after (λ was now. was.session ≢ own.session →
    (now ≡ record was { channel = now.channel; mute = now.mute; deaf = now.deaf; suppress = now.suppress; priority = now.priority })
    × ListensAsBefore before after was.session × AimsAsBefore before after was.session))

-- nobody gets another number, slot, name or account
abbrev pub SessionsStayWhoTheyAre : Type 0
SessionsStayWhoTheyAre = OfUserCommands (λ before after own tokens message. OfStaying before after (λ was now.
    (now.session ≡ was.session) × (now.slot ≡ was.slot) × (now.name ≡ was.name) × (now.account ≡ was.account)))

-- whoever listens to a channel did so before, or is the actor and has Listen there
abbrev pub ListensWherePermitted : Type 0
ListensWherePermitted =
    OfUserCommands (λ before after own tokens message. OfStaying before after (λ was now. (channel : ChannelId)
    → IsTrue (listens after.roster was.session channel)
    → IsTrue (listens before.roster was.session channel)
    ⊎ ((was.session ≡ own.session) × IsTrue (may_with before own tokens LISTEN channel))))
