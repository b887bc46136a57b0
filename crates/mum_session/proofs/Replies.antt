-- How a verdict ends the wait for its reply.
use Rattle.mum_session.proofs.Common.{◌≡◌, ℕ, ap, refl, SessionId, Slot, Verdict, Accepted, JoinsAs, reply_end}
use Rattle.mum_state.specs.declared.{edit.Edit.TheVariants.Join, verdict.Verdict.TheVariants.Rejected}
use Rattle.mum_base.specs.declared.reply.ReplyEnd.TheVariants as ends

pub joined_of : (verdict : Verdict) (session : SessionId) (slot : Slot) → reply_end verdict ≡ ends.Joined session slot → JoinsAs session slot verdict
joined_of (Accepted (Join own place name account tokens)) session slot is = (name, account, tokens, cc)
joined_of (Rejected kind) session slot is = absurd cc
joined_of others session slot is = absurd cc

pub joined_by : (verdict : Verdict) (session : SessionId) (slot : Slot) → JoinsAs session slot verdict → reply_end verdict ≡ ends.Joined session slot
joined_by verdict session slot (name, account, tokens, is) = ap reply_end is

pub rejected_of : (verdict : Verdict) → reply_end verdict ≡ ends.Rejected → (kind : ℕ) × (verdict ≡ Rejected kind)
rejected_of (Accepted (Join own place name account tokens)) is = absurd cc
rejected_of (Rejected kind) is = (kind, refl)
rejected_of others is = absurd cc

pub rejected_by : (verdict : Verdict) → ((kind : ℕ) × (verdict ≡ Rejected kind)) → reply_end verdict ≡ ends.Rejected
rejected_by verdict (kind, is) = ap reply_end is
