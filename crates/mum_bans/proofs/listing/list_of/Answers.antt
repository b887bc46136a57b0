use Rattle.mum_bans.proofs.Common.{◌∷◌, [], ◌++◌, ap, ◌∙◌, BanEntry, entry_of}
use Rattle.mum_bans.proofs.Lists.{mapped_at}
use Rattle.mum_bans.proofs.listing.list_of.Goals as goal

pub loop-ban-preserved : goal.loop-ban-preserved
loop-ban-preserved c =
    let is = c.in_ok-entry_of.ensures ∙ ap entry_of c.ban-item.is in
    mapped_at entry_of c.args.bans.now c.loop-ban.ban-index c.ban-item.result c.loop-ban.entries.items _ c.loop-ban-test.true c.loop-ban.invariant
    (c.in_ok-push.ensures.items ∙ ap (λ (entry : BanEntry). c.loop-ban.entries.items ++ entry ∷ []) is)
