use Rattle.mum_viewer.proofs.Common.{rules}
use Rattle.mum_viewer.proofs.Rests.{all_left}
use Rattle.mum_viewer.proofs.rest.Rest.of.Goals as goal

pub returns : goal.returns
returns c = all_left c.args.text _ (search rules)
