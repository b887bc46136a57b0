use Rattle.mum_tree.proofs.Climb.{length_from_root, length_missing}
use Rattle.mum_tree.proofs.rows.path_length.Goals as goal

pub returns-in-Some-clause-value : goal.returns-in-Some-clause-value
returns-in-Some-clause-value c = length_from_root c.args.rows.now c.args.id c.in-Some.steps ((c.in-Some.ensures {u = tt}).value)

pub returns-in-None-clause-value : goal.returns-in-None-clause-value
returns-in-None-clause-value c = length_missing c.args.rows.now c.args.id c.requires.lead ((c.in-None.ensures {u = tt}).value)
