use Rattle.mum_tree.proofs.Common.{rules, answers_always, number}
use Rattle.mum_tree.proofs.Search.{located}
use Rattle.mum_tree.proofs.rows.locate.Goals as goal

pub returns : goal.returns
returns c =
    let facts = c.binary_search_by_key.ensures in
    let by_number = facts.position number (answers_always _ _ _ (λ f a r g called. search rules)) in
    located c.args.rows.now c.args.id c.requires c.binary_search_by_key.result c.ok.result facts.bound by_number c.ok.ensures.value
