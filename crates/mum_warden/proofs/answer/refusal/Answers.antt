use Rattle.std.proofs.Common.{◌∙◌, ap, arith}
use Rattle.std.proofs.lemmas.Result.{IfOk-weaker}
use Rattle.mum_frame.specs.Frame.{spelling_of}
use Rattle.mum_frame.specs.declared.kind.TheConstants.{REJECT}
use Rattle.mum_fields.specs.Table.{spelled}
use Rattle.mum_msg_state.specs.Messages.{reject}
use Rattle.mum_msg_state.specs.declared.reject.Reject.{Reject}
use Rattle.mum_warden.specs.Answer.{refusal}
use Rattle.mum_warden.proofs.StandardFacts.{ten_bytes}
use Rattle.mum_warden.proofs.answer.refusal.Goals as goal

pub put_frame-requires : goal.put_frame-requires
put_frame-requires c =
    rw (c.as_slice.ensures, c.in_ok-payload.ensures.written, c.in_ok-message.ensures) (omega (arith, ten_bytes))

pub returns : goal.returns
unfolding refusal
returns c =
    IfOk-weaker c.put_frame.result _ _
    (λ _ is. is ∙ ap (spelling_of REJECT) (c.as_slice.ensures ∙ (c.in_ok-payload.ensures.written ∙ ap (λ (message : Reject). spelled reject message) c.in_ok-message.ensures)))
    c.put_frame.ensures
