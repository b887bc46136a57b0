use Rattle.mum_config.proofs.Common.{sym, ◌∙◌, channel_fault}
use Rattle.mum_config.proofs.channel.read_channel.Goals as goal

pub returns-then-is_root_entry-clause-reads : goal.returns-then-is_root_entry-clause-reads
unfolding channel_fault
returns-then-is_root_entry-clause-reads c = rw (sym c.is_root_entry.ensures ∙ c.if-is_root_entry.true) c.read_root.ensures.reads

pub returns-else-is_root_entry-clause-reads : goal.returns-else-is_root_entry-clause-reads
unfolding channel_fault
returns-else-is_root_entry-clause-reads c = rw (sym c.is_root_entry.ensures ∙ c.if-is_root_entry.false) c.read_made.ensures.reads
