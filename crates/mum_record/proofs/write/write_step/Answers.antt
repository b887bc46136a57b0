use Rattle.mum_record.proofs.Common.{◌≡◌, ◌∙◌, ap, arith, common_steps, line_of, step_of}
use Rattle.mum_record.proofs.Laws.{step_of-line_of}
use Rattle.mum_record.proofs.write.write_step.Goals as goal

pub returns-clause-read_back : goal.returns-clause-read_back
returns-clause-read_back c =
    let written : c.from_vec.result ≡ line_of c.args.step.now = grind (arith, common_steps) in
    ap step_of written ∙ step_of-line_of c.args.step.now (c.in_ok-text.ensures.fits, c.requires)
