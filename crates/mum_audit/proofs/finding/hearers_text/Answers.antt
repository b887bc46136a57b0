use Rattle.mum_audit.proofs.Common.{arith, common_steps, member_of}
use Rattle.mum_audit.proofs.Texts.{audience_of}
use Rattle.mum_audit.proofs.finding.hearers_text.Goals as goal

pub returns : goal.returns
returns c =
    let whole = audience_of member_of c.args.hearers.now in
    grind (arith, common_steps)
