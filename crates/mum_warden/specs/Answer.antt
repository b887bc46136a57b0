-- What is sent to who brings a list of bans, and to who is banned.
use Rattle.std.specs.Prelude.{ℕ, List, [], Option, Some, None, codes}
use Rattle.std.specs.Option.{option_map_or}
use Rattle.mum_base.specs.Codes.{deny_code}
use Rattle.mum_base.specs.declared.number.{SessionId.SessionId, TheConstants.ChannelId.ROOT}
use Rattle.mum_base.specs.declared.{outcome.DenyType.TheVariants.Text, perm.TheConstants.Perm.BAN}
use Rattle.mum_frame.specs.Frame.{spelling_of}
use Rattle.mum_frame.specs.declared.kind.TheConstants.{REJECT}
use Rattle.mum_fields.specs.Table.{spelled}
use Rattle.mum_msg_state.specs.Messages.{reject}
use Rattle.mum_msg_state.specs.declared.reject.Reject.{Reject}
use Rattle.mum_state.specs.declared.verdict.Verdict.{Verdict}
use Rattle.mum_bans.specs.declared.verdict.BanVerdict.{BanVerdict}
use Rattle.mum_session.specs.Reply.{wire}
use Rattle.mum_session.specs.declared.action.TheConstants.{BAN_LIST}
use Rattle.mum_bans.specs.declared.verdict.BanVerdict.TheVariants as bans
use Rattle.mum_state.specs.declared.verdict.Verdict.TheVariants as verdicts

-- the verdict that answers who brought a list of bans: it lacks Ban on the root, or gets the bans in a BanList, or meets
-- a limit. None answers a list that is malformed, or that sets the bans
abbrev pub answer_to : BanVerdict → Option Verdict
answer_to bans.Ignored = None
answer_to bans.Lacks = Some (verdicts.Lacks BAN ROOT)
answer_to (bans.Answer payload) = Some (verdicts.Answer (record { kind = BAN_LIST; payload = payload }))
answer_to bans.Refused = Some (verdicts.Refused (deny_code Text))
answer_to bans.Set = None

-- the bytes that its session is sent
abbrev pub sent : SessionId → BanVerdict → List ℕ
sent session verdict = option_map_or (wire (Some session)) (answer_to verdict) []

-- the message to who is banned
abbrev pub rejection : Reject
rejection = record { kind = Some 0; reason = Some (codes "banned") }

-- its frame
unfoldable pub refusal : List ℕ
refusal = spelling_of REJECT (spelled reject rejection)
