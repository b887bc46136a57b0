use Rattle.mum_server.proofs.Common.{refl, inl}
use Rattle.mum_server.proofs.program.report.Goals as goal

pub returns-in-ReadFault : goal.returns-in-ReadFault
returns-in-ReadFault g c = rw c.in-ReadFault.is (inl (refl, c.say-in-ReadFault.ensures))

pub returns-in-WriteFault : goal.returns-in-WriteFault
returns-in-WriteFault g c = rw c.in-WriteFault.is (inl (refl, c.say-in-WriteFault.ensures))

pub returns-in-OutOfMemory : goal.returns-in-OutOfMemory
returns-in-OutOfMemory g c = rw (c.in-OutOfMemory.is, c.out_of_memory.ensures.status) (inl (refl, c.out_of_memory.ensures.says))
