use Rattle.mum_address.proofs.Common.{sym, ◌∙◌, arith}
use Rattle.mum_address.proofs.Fronts.{read_whole, whole_read, read_refused, refused_read, read_needs}
use Rattle.mum_address.proofs.proxy.header_of.Goals as goal

pub returns-clause-whole : goal.returns-clause-whole
returns-clause-whole c = λ told. (λ e. read_whole c.args.bytes.now told (λ i. omega (arith, c.type_inv.bytes i)) (sym c.read.ensures ∙ e), λ is. c.read.ensures ∙ whole_read c.args.bytes.now told is)

pub returns-clause-refused : goal.returns-clause-refused
returns-clause-refused c = (λ e. read_refused c.args.bytes.now (sym c.read.ensures ∙ e), λ none. c.read.ensures ∙ refused_read c.args.bytes.now (λ i. omega (arith, c.type_inv.bytes i)) none)

pub returns-clause-needs : goal.returns-clause-needs
returns-clause-needs c = λ count e. read_needs c.args.bytes.now count (λ i. omega (arith, c.type_inv.bytes i)) (sym c.read.ensures ∙ e)
