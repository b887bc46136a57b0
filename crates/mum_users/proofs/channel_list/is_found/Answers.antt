use Rattle.mum_users.proofs.Common.{◌∙◌, rules, answers_always, ChannelId}
use Rattle.mum_users.proofs.Search.{any_by_halving}
use Rattle.mum_users.proofs.channel_list.is_found.Goals as goal

pub returns : goal.returns
returns c =
    let facts = c.binary_search_by_key.ensures in
    let by_number = facts.position (λ own. own.0) (answers_always _ _ _ (λ f a r g called. search rules)) in
    c.is_ok.ensures.value
    ∙ any_by_halving (λ (own : ChannelId). own.0) c.args.channel.0 c.args.sorted.now c.requires c.binary_search_by_key.result facts.bound by_number
