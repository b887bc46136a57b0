use Rattle.mum_address.proofs.Apart.{one, begins_no_other, header_fits, sixteen}
use Rattle.mum_address.proofs.proxy.headers_are_told_apart.Goals as goal

pub returns-clause-one : goal.returns-clause-one
returns-clause-one c = one

pub returns-clause-begins_no_other : goal.returns-clause-begins_no_other
returns-clause-begins_no_other c = begins_no_other

pub returns-clause-limit : goal.returns-clause-limit
returns-clause-limit c = header_fits

pub returns-clause-octets : goal.returns-clause-octets
returns-clause-octets c = sixteen
