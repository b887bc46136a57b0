use Rattle.mum_address.proofs.Common.{sym, subst, IsRead}
use Rattle.mum_address.proofs.reader.HeaderReader.new.Goals as goal

pub invariant_of-result : goal.invariant_of-result
invariant_of-result c = subst IsRead (sym c.new.ensures) IsRead.nothing
