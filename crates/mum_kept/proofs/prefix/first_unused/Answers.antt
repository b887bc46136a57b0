use Rattle.mum_kept.proofs.Unused.{first_free}
use Rattle.mum_kept.proofs.prefix.first_unused.Goals as goal

pub returns : goal.returns
returns c =
    let free = first_free c.args.channels.now c.mark_prefixes.new.used c.first_false.result c.requires.few c.mark_prefixes.ensures.marked c.first_false.ensures.marked c.first_false.ensures.free in
    record { number = free.number; within = free.within }
