use Rattle.mum_users.proofs.Common.{◌∙◌, rules, answers_always, MaskRow}
use Rattle.mum_users.proofs.{MaskRows.channels_in_order, Search.any_by_halving}
use Rattle.mum_users.proofs.masks.has_row.Goals as goal

pub returns : goal.returns
returns c =
    let facts = c.binary_search_by_key.ensures in
    let by_channel = facts.position (λ row. row.channel.0) (answers_always _ _ _ (λ f a r g called. search rules)) in
    c.is_ok.ensures.value
    ∙ any_by_halving (λ (row : MaskRow). row.channel.0) c.args.channel.0 c.args.rows.now (channels_in_order c.args.rows.now c.requires) c.binary_search_by_key.result facts.bound by_channel
