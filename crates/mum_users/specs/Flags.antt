-- How a change of flags is applied.
use Rattle.std.specs.Prelude.{Bool, true, false, Option, Some, None, unwrap_or}
use Rattle.mum_users.specs.declared.{flags.Silence.Silence, flags.FlagChange.FlagChange, user.User.User}

-- who is no longer mute is no longer deaf
abbrev pub after_mute : Option Bool → Silence → Silence
after_mute None was = was
after_mute (Some true) was = record { mute = true; deaf = was.deaf }
after_mute (Some false) was = record { mute = false; deaf = false }

-- who becomes deaf becomes mute
abbrev pub after_deaf : Option Bool → Silence → Silence
after_deaf None was = was
after_deaf (Some true) was = record { mute = true; deaf = true }
after_deaf (Some false) was = record { mute = was.mute; deaf = false }

-- mute is applied before deaf
abbrev pub silence_after : Option Bool → Option Bool → Silence → Silence
silence_after mute deaf was = after_deaf deaf (after_mute mute was)

-- a session's row with these flags changed
abbrev pub flagged : User → FlagChange → User
flagged user change =
    let by_others = silence_after change.mute change.deaf (record { mute = user.mute; deaf = user.deaf }) in
    let by_self = silence_after change.self_mute change.self_deaf
    (record { mute = user.self_mute; deaf = user.self_deaf }) in
    record user {
      mute = by_others.mute;
      deaf = by_others.deaf;
      self_mute = by_self.mute;
      self_deaf = by_self.deaf;
      suppress = unwrap_or change.suppress user.suppress;
      priority = unwrap_or change.priority user.priority;
      recording = unwrap_or change.recording user.recording;
    }
