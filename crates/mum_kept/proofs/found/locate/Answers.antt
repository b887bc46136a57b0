use Rattle.mum_kept.proofs.Common.{rules, answers_always, KeptChannel}
use Rattle.mum_kept.proofs.Numbered.{located}
use Rattle.mum_kept.proofs.found.locate.Goals as goal

pub returns : goal.returns
returns c =
    let facts = c.binary_search_by_key.ensures in
    let by_number = facts.position (λ (channel : KeptChannel). channel.id.0) (answers_always _ _ _ (λ f a r g called. search rules)) in
    located c.args.channels.now c.args.id c.requires c.binary_search_by_key.result c.ok.result facts.bound by_number c.ok.ensures.value
