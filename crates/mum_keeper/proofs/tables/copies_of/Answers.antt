use Rattle.mum_keeper.proofs.Common.{◌∙◌, ◌++◌, List, [], ◌∷◌, ap, sym, take, take_more, KeptChannel}
use Rattle.mum_keeper.proofs.tables.copies_of.Goals as goal

pub loop-channel-preserved : goal.loop-channel-preserved
loop-channel-preserved c =
    c.in_ok-push.ensures.items
    ∙ ap (λ (front : List KeptChannel). front ++ c.in_ok-share.field-0 ∷ []) c.loop-channel.invariant
    ∙ ap (λ (next : KeptChannel). take c.loop-channel.channel-index c.args.channels.now ++ next ∷ []) (c.in_ok-share.ensures ∙ c.channel-item.is)
    ∙ sym (take_more c.args.channels.now c.loop-channel.channel-index c.channel-item.result c.loop-channel-test.true)
