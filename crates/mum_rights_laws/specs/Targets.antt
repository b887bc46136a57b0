-- Voice targets are those of the message that sets them.
use Rattle.std.specs.Prelude.{◌≡◌, false, List, [], ◌∷◌, map, Option, Some, None, unwrap_or}
use Rattle.std.specs.{List.AllZip, Option.option_map}
use Rattle.mum_users.specs.declared.target.{Target.Target as VoiceTargets, TargetItem.TargetItem}
use Rattle.mum_users.specs.Targets.{target_of}
use Rattle.mum_msg_rule.specs.declared.{target_block.TargetBlock.TargetBlock, voice_target.VoiceTarget.VoiceTarget}
use Rattle.mum_rules_user.specs.declared.message.UserMessage.TheVariants.{Target}
use Rattle.mum_rights_laws.specs.UserCommands.{OfUserCommands}

pub record IsItemAsked (asked : TargetBlock) (item : TargetItem) : Type 0 where
  pub sessions : map (λ session. session.0) item.sessions ≡ asked.session
  pub channel : option_map (λ channel. channel.0) item.channel ≡ asked.channel_id
  pub group : item.group ≡ unwrap_or asked.group []
  pub links : item.links ≡ unwrap_or asked.links false
  pub children : item.children ≡ unwrap_or asked.children false

-- no item unsets the target
abbrev pub IsTargetAsked : List TargetBlock → Option VoiceTargets → Type 0
IsTargetAsked [] found = found ≡ None
IsTargetAsked (block ∷ blocks) None = ⊥
IsTargetAsked (block ∷ blocks) (Some target) = AllZip IsItemAsked (block ∷ blocks) target.items

-- whoever sends a VoiceTarget has under its number exactly the items of the message
abbrev pub TargetsAreDone : Type 0
TargetsAreDone = OfUserCommands (λ before after own tokens message. (asked : VoiceTarget) → message ≡ Target asked
    → IsTargetAsked asked.targets (target_of after.roster own.session (unwrap_or asked.id 0)))
