use Rattle.mum_users.proofs.Indexes.{IsIndexed-put}
use Rattle.mum_users.proofs.listeners.put_channel.Goals as goal

pub returns-clause-indexed : goal.returns-clause-indexed
returns-clause-indexed c = rw (c.put_pair.ensures.items, c.put_pair-2.ensures.items) (IsIndexed-put c.args.new _ _ c.requires.indexed)
