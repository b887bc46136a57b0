use Rattle.mum_notify.proofs.Common.{List, ap, reverse, sym, list_any, ChannelId, PATH_LIMIT, upward_missing, lists}
use Rattle.mum_notify.proofs.texts.is_below_one.Goals as goal

pub returns-in-None : goal.returns-in-None
returns-in-None c =
    sym (ap (λ (way : List ChannelId). list_any (λ channel. lists c.args.tops.now.numbers.items channel.0) (reverse way)) (upward_missing c.args.tree.now.channels PATH_LIMIT c.args.id c.in-None.ensures.value))
