use Rattle.mum_record.proofs.EntryLaws.{command_of-one}
use Rattle.mum_record.proofs.control.control_in.Goals as goal

pub may_carry_version-requires : goal.may_carry_version-requires
may_carry_version-requires c = command_of-one c.in_ok-words.words.command.now c.in_ok-frame.frame c.in_ok-frame.ensures
