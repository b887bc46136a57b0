use Rattle.mum_owner.proofs.Framing.{writable}
use Rattle.mum_owner.proofs.entry.entry_of.Goals as goal

pub returns-clause-writable : goal.returns-clause-writable
returns-clause-writable c =
    writable c.args.command.now.what _ _ c.version_of.ensures c.in_ok-frame.ensures.frame c.in_ok-frame.ensures.one
