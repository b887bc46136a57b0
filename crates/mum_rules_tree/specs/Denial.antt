-- The frames that report denials.
use Rattle.std.specs.Prelude.{ℕ, ◌==◌, Option, Some, None, List, codes, if◌then◌else◌}
use Rattle.std.specs.Option.{option_map}
use Rattle.mum_base.specs.declared.{number.ChannelId.ChannelId, number.SessionId.SessionId, perm.Perm.Perm}
use Rattle.mum_base.specs.declared.outcome.DenyType.TheVariants.{Permission, Text}
use Rattle.mum_base.specs.Codes.{deny_code}
use Rattle.mum_frame.specs.declared.{frame.Frame.Frame, kind.TheConstants.PERMISSION_DENIED, kind.TheConstants.REJECT}
use Rattle.mum_fields.specs.Table.{spelled}
use Rattle.mum_msg_state.specs.declared.reject.Reject.{Reject}
use Rattle.mum_msg_state.specs.Messages.{reject}
use Rattle.mum_msg_rule.specs.declared.permission_denied.PermissionDenied.{PermissionDenied}
use Rattle.mum_msg_rule.specs.Messages.{permission_denied}
use Rattle.mum_state.specs.declared.verdict.Verdict.{Verdict}
use Rattle.mum_state.specs.declared.verdict.Verdict.TheVariants.{Lacks, Refused, Rejected}

-- the permission and the channel where it is missing
abbrev pub denial_of_lack : Option SessionId → Perm → ChannelId → PermissionDenied
denial_of_lack actor perm channel = record {
  permission = Some perm.0;
  channel_id = Some channel.0;
  session = option_map (λ session. session.0) actor;
  reason = None;
  kind = Some (deny_code Permission);
  name = None;
}

-- a denial for another reason than those that have a type says so in a word
abbrev pub word_of_refusal : ℕ → Option (List ℕ)
word_of_refusal kind = if kind == deny_code Text then Some (codes "refused") else None

abbrev pub denial_of_limit : Option SessionId → ℕ → PermissionDenied
denial_of_limit actor kind = record {
  permission = None;
  channel_id = None;
  session = option_map (λ session. session.0) actor;
  reason = word_of_refusal kind;
  kind = Some kind;
  name = None;
}

abbrev pub rejection : ℕ → Reject
rejection kind = record { kind = Some kind; reason = None }

unfoldable pub denied_frame : PermissionDenied → Frame
denied_frame message = record { kind = PERMISSION_DENIED; payload = spelled permission_denied message }

unfoldable pub rejected_frame : Reject → Frame
rejected_frame message = record { kind = REJECT; payload = spelled reject message }

-- what the actor is sent of a verdict that denies
abbrev pub denial : Option SessionId → Verdict → Option Frame
denial actor (Lacks perm channel) = Some (denied_frame (denial_of_lack actor perm channel))
denial actor (Refused kind) = Some (denied_frame (denial_of_limit actor kind))
denial actor (Rejected kind) = Some (rejected_frame (rejection kind))
denial actor verdict = None
