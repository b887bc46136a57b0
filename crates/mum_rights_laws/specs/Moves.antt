-- Who enters a channel, and who is moved there, by a message on users.
use Rattle.std.specs.Prelude.{◌≡◌, ◌≢◌, ◌⊎◌, ℕ, ◌||◌, List, IsTrue}
use Rattle.mum_base.specs.declared.number.ChannelId.{ChannelId}
use Rattle.mum_base.specs.declared.perm.TheConstants.Perm.{ENTER, MOVE}
use Rattle.mum_users.specs.declared.user.User.{User}
use Rattle.mum_state.specs.State.{StateValue}
use Rattle.mum_rights_laws.specs.{Rights.may, Rights.may_with, Standing.OfStaying}
use Rattle.mum_rights_laws.specs.UserCommands.{IsAbout, OfUserCommands}

-- the session enters by itself: it has Enter or Move there
abbrev pub Enters : StateValue → User → List (List ℕ) → User → ChannelId → Type 0
Enters before own tokens user there =
    (user.session ≡ own.session)
    × IsTrue (may_with before own tokens ENTER there || may_with before own tokens MOVE there)

-- another is moved: the actor has Move where that is, and Move there, or the other may enter there by its own tokens
abbrev pub IsMoved : StateValue → User → List (List ℕ) → User → ChannelId → Type 0
IsMoved before own tokens user there =
    (user.session ≢ own.session) × IsTrue (may_with before own tokens MOVE user.channel)
    × IsTrue (may_with before own tokens MOVE there || may before user ENTER there)

-- a session stays in its channel; or the message is about it, and it enters or is moved where it is then
abbrev pub MovesArePermitted : Type 0
MovesArePermitted = OfUserCommands (λ before after own tokens message. OfStaying before after (λ was now.
    (now.channel ≡ was.channel)
    ⊎ (IsAbout own message was
    × (Enters before own tokens was now.channel ⊎ IsMoved before own tokens was now.channel))))
