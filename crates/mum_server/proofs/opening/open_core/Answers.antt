use Rattle.mum_server.proofs.Common.{◌∙◌}
use Rattle.mum_server.proofs.Answered.{config_opens}
use Rattle.mum_server.proofs.opening.open_core.Goals as goal

pub returns : goal.returns
returns c =
    config_opens c.args.workers c.args.limits c.args.document.now c.as_slice.result.now c.with_limits.result c.in_ok-opening.opening c.in_ok-begin.field-0 c.in_ok-edits.ensures.describes.0
    (c.as_slice.ensures ∙ c.in_ok-edits.ensures.describes.1) c.with_limits.ensures
    c.in_ok-opening.ensures c.in_ok-begin.ensures
