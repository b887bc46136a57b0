use Rattle.mum_kept.proofs.Common.{IsTrue, ◌↔◌, IfOk-weaker, AreGoodChannels}
use Rattle.mum_kept.proofs.Whole.{good_by_siblings, no_policies, not_shaped}
use Rattle.mum_kept.proofs.good.are_good_channels.Goals as goal

pub returns-then-not-are_shaped : goal.returns-then-not-are_shaped
returns-then-not-are_shaped c = not_shaped c.args.channels.now c.are_shaped.result c.are_shaped.ensures c.if-not-are_shaped.true

pub returns-then-not-have : goal.returns-then-not-have
returns-then-not-have c = no_policies c.args.channels.now _ c.in_ok-have.ensures c.if-not-have.true

pub returns : goal.returns
returns c =
    IfOk-weaker c.are_apart.result _ (λ good. IsTrue good ↔ AreGoodChannels c.args.channels.now)
    (λ good apart. good_by_siblings c.args.channels.now c.are_shaped.result _ good c.are_shaped.ensures c.if-not-are_shaped.false c.in_ok-have.ensures c.if-not-have.false apart) c.are_apart.ensures
