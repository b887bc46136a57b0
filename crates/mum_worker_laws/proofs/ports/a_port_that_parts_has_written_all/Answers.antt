use Rattle.mum_worker_laws.proofs.Partings.{parted_life, parted_written, rejected_life, rejected_written}
use Rattle.mum_worker_laws.proofs.ports.a_port_that_parts_has_written_all.Goals as goal

pub returns-clause-rejected : goal.returns-clause-rejected
returns-clause-rejected g c opening life new is_life cause = rejected_life g.L.Link.facts opening life new is_life cause

pub returns-clause-kicked : goal.returns-clause-kicked
returns-clause-kicked g c opening life new is_life cause = parted_life g.L.Link.facts opening life new is_life cause

pub returns-clause-after_rejection : goal.returns-clause-after_rejection
returns-clause-after_rejection g c opening old new machine did steps closed = rejected_written g.L.Link.facts opening old machine did new steps closed

pub returns-clause-after_last_parcel : goal.returns-clause-after_last_parcel
returns-clause-after_last_parcel g c opening old new machine did steps closed = parted_written g.L.Link.facts opening old machine did new steps closed
