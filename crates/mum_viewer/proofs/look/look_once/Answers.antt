use Rattle.mum_viewer.proofs.Common.{rules, view_ask}
use Rattle.mum_viewer.proofs.Looking.{same_known}
use Rattle.mum_viewer.proofs.look.look_once.Goals as goal

pub returns-clause-same : goal.returns-clause-same
returns-clause-same g c = λ same.
    same_known c.args.pass.now c.look-picture.new.self c.look-picture.ensures.0 view_ask c.revision-before.result c.revision.result
    c.look-picture.ensures.1 (search rules) (search rules) (search rules) same
