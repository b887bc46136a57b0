-- What the actor and its worker are answered by a verdict.
use Rattle.std.specs.Prelude.{◌≡◌, ℕ, nat_le, List, [], length, Option, Some, if◌then◌else◌}
use Rattle.std.specs.Option.{option_map_or}
use Rattle.mum_base.specs.declared.number.{AccountId.AccountId, SessionId.SessionId, Slot.Slot}
use Rattle.mum_base.specs.declared.reply.{Mark.Mark, ReplyEnd.ReplyEnd}
use Rattle.mum_frame.specs.declared.frame.{Frame.Frame, TheConstants.PAYLOAD_LIMIT}
use Rattle.mum_frame.specs.Frame.{frame_spelling}
use Rattle.mum_state.specs.declared.{edit.Edit.TheVariants.Join, verdict.Verdict.Verdict}
use Rattle.mum_state.specs.declared.verdict.Verdict.TheVariants.{Accepted, Lacks, Refused, Rejected, Answer, Ignored}
use Rattle.mum_rules_tree.specs.Denial.{denial}
use Rattle.mum_base.specs.declared.reply.Mark.TheVariants as marks
use Rattle.mum_base.specs.declared.reply.ReplyEnd.TheVariants as ends

-- the outcome, where an accepted edit gets this revision
abbrev pub mark : ℕ → Verdict → Mark
mark revision (Accepted edit) = marks.Accepted revision
mark revision (Lacks perm channel) = marks.Lacks perm channel
mark revision (Refused kind) = marks.Refused kind
mark revision (Rejected kind) = marks.Rejected kind
mark revision (Answer frame) = marks.Answer
mark revision (Ignored why) = marks.Ignored why

-- how the wait for the reply ends: an accepted login gives a session in its slot, a rejected one ends the connection
abbrev pub reply_end : Verdict → ReplyEnd
reply_end (Accepted (Join session slot name account tokens)) = ends.Joined session slot
reply_end (Rejected kind) = ends.Rejected
reply_end others = ends.Decided

-- the verdict accepts a login as this session in this slot
abbrev pub JoinsAs : SessionId → Slot → Verdict → Type 0
JoinsAs session slot verdict =
    (name : List ℕ) × (account : Option AccountId) × (tokens : List (List ℕ))
    × (verdict ≡ Accepted (Join session slot name account tokens))

-- the frame that answers a query, or reports a denial
abbrev pub frame_of : Option SessionId → Verdict → Option Frame
frame_of session (Answer frame) = Some frame
frame_of session others = denial session others

-- the bytes of a frame; none where its payload is longer than the limit of frames
abbrev pub sendable : Frame → List ℕ
sendable frame = if nat_le (length frame.payload) PAYLOAD_LIMIT then frame_spelling frame else []

-- the bytes that the actor is sent; none where there is no frame
abbrev pub wire : Option SessionId → Verdict → List ℕ
wire session verdict = option_map_or sendable (frame_of session verdict) []
