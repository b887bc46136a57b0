use Rattle.mum_record.proofs.ConfigLaws.{Reads-config_found, Reads-config_refused, config_of-no_text}
use Rattle.mum_record.proofs.head.read_config_line.Goals as goal

pub returns-in-Ok-clause-exact : goal.returns-in-Ok-clause-exact
returns-in-Ok-clause-exact c = rw c.in-Ok.ensures.cases.0 at c.config_in.ensures

pub returns-in-Ok-clause-found : goal.returns-in-Ok-clause-found
returns-in-Ok-clause-found c = Reads-config_found c.args.line.now c.config_in.result (rw c.in-Ok.ensures.cases.0 at c.config_in.ensures)

pub returns-in-Ok-clause-refused : goal.returns-in-Ok-clause-refused
returns-in-Ok-clause-refused c = Reads-config_refused c.args.line.now c.config_in.result (rw c.in-Ok.ensures.cases.0 at c.config_in.ensures)

pub returns-in-Err-clause-exact : goal.returns-in-Err-clause-exact
returns-in-Err-clause-exact c = config_of-no_text c.args.line.now c.in-Err.ensures.cases.0

pub returns-in-Err-clause-refused : goal.returns-in-Err-clause-refused
returns-in-Err-clause-refused c = Reads-config_refused c.args.line.now _ (config_of-no_text c.args.line.now c.in-Err.ensures.cases.0)
