use Rattle.mum_record.proofs.control.command_word.Goals as goal

pub returns-in-Some-clause-fits : goal.returns-in-Some-clause-fits
returns-in-Some-clause-fits c = rw c.in-Some.is (rw c.as_slice.ensures at c.digits_word.ensures.fits)
