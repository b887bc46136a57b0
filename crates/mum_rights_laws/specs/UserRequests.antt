-- What a message on users asks for is what changes, and nothing else does.
use Rattle.std.specs.Prelude.{◌≡◌, ◌⊎◌, ℕ, ◌&&◌, ◌||◌, not, nat_lt, Bool, true, false, length, filter, take, Option, Some, None, unwrap_or}
use Rattle.mum_base.specs.declared.number.ChannelId.{ChannelId}
use Rattle.mum_tree.specs.Rows.{is_there}
use Rattle.mum_users.specs.{Listeners.listens, Targets.target_of}
use Rattle.mum_users.specs.declared.user.User.{User}
use Rattle.mum_msg_state.specs.declared.{authenticate.Authenticate.Authenticate, user_state.UserState.UserState}
use Rattle.mum_msg_rule.specs.declared.voice_target.VoiceTarget.{VoiceTarget}
use Rattle.mum_rules_user.specs.declared.message.UserMessage.TheVariants.{Join, Target, User as Changes}
use Rattle.mum_rights_laws.specs.{Speech.LogsInAgain, Listed.is_listed, Standing.OfStaying}
use Rattle.mum_rights_laws.specs.UserCommands.{IsAbout, OfUserCommands}

-- ---- flags

-- whether a session is mute where these are asked for: whoever is to be deaf is
abbrev pub mute_asked : Option Bool → Option Bool → Bool → Bool
mute_asked mute (Some true) was = true
mute_asked mute (Some false) was = unwrap_or mute was
mute_asked mute None was = unwrap_or mute was

-- and whether it is deaf: whoever is to be mute no longer is not
abbrev pub deaf_asked : Option Bool → Option Bool → Bool → Bool
deaf_asked mute (Some deaf) was = deaf
deaf_asked (Some false) None was = false
deaf_asked (Some true) None was = was
deaf_asked None None was = was

-- ---- a UserState

-- the session is as the message asks, and what is not asked is as it was
pub record IsAsAsked (asked : UserState) (was now : User) : Type 0 where
  pub channel : now.channel.0 ≡ unwrap_or asked.channel_id was.channel.0
  pub mute : now.mute ≡ mute_asked asked.mute asked.deaf was.mute
  pub deaf : now.deaf ≡ deaf_asked asked.mute asked.deaf was.deaf
  pub self_mute : now.self_mute ≡ mute_asked asked.self_mute asked.self_deaf was.self_mute
  pub self_deaf : now.self_deaf ≡ deaf_asked asked.self_mute asked.self_deaf was.self_deaf
  pub priority : now.priority ≡ unwrap_or asked.priority_speaker was.priority
  pub recording : now.recording ≡ unwrap_or asked.recording was.recording
  pub comment : now.comment ≡ unwrap_or asked.comment was.comment
  pub context : now.context ≡ unwrap_or asked.plugin_context was.context
  pub tokens : now.tokens ≡ was.tokens
  pub speaks : asked.suppress ≡ Some false → now.suppress ≡ false

-- whom a UserState is about is as it asks, and listens to what it did and is to listen to, but for what it is to leave and
-- what is gone
abbrev pub UserStatesAreDone : Type 0
UserStatesAreDone =
    OfUserCommands (λ before after own tokens message. OfStaying before after (λ was now. (asked : UserState)
    → message ≡ Changes asked → unwrap_or asked.session own.session.0 ≡ was.session.0
    → IsAsAsked asked was now
    × ((channel : ChannelId) → listens after.roster was.session channel
    ≡ (((listens before.roster was.session channel || is_listed asked.listening_channel_add channel)
    && not (is_listed asked.listening_channel_remove channel)) && is_there after.tree.channels channel))))

-- ---- the others

-- a session that the message is not about, and that does not log in again by it, is as it was
abbrev pub TheUnnamedStand : Type 0
TheUnnamedStand = OfUserCommands (λ before after own tokens message. OfStaying before after (λ was now.
    ¬ IsAbout own message was → ¬ LogsInAgain own message was → now ≡ was))

-- whoever logs in again has the tokens that it brings, the first 64 without those of more than 128 bytes; nothing else of it
-- changes but whether it is suppressed
abbrev pub LoginsRenewTokens : Type 0
LoginsRenewTokens =
    OfUserCommands
    (λ before after own tokens message. OfStaying before after (λ was now. (login : Authenticate) (version : Option ℕ)
    → message ≡ Join login version → was.session ≡ own.session
    → now ≡ record was {
      tokens = filter (λ token. not (nat_lt 128 (length token)))
          (take 64 login.tokens);
      suppress = now.suppress;
    }))

-- the voice targets of the actor stay, but for the one whose number a VoiceTarget has
abbrev pub OtherTargetsStand : Type 0
OtherTargetsStand =
    OfUserCommands
    (λ before after own tokens message. OfStaying before after (λ was now. was.session ≡ own.session → (id : ℕ)
    → (target_of after.roster was.session id ≡ target_of before.roster was.session id)
    ⊎ ((asked : VoiceTarget) × (message ≡ Target asked) × (unwrap_or asked.id 0 ≡ id))))
