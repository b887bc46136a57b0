use Rattle.mum_audit.proofs.Common.{arith, common_steps}
use Rattle.mum_audit.proofs.Texts.{audience_of}
use Rattle.mum_audit.proofs.finding.copies_text.Goals as goal

pub returns : goal.returns
returns c =
    let whole = audience_of (λ copy. (copy.session, copy.context)) c.args.copies.now in
    grind (arith, common_steps)
