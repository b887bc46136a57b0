use Rattle.mum_tree.proofs.Common.{◌≡◌, ◌<◌, List, true, take, ap, sym, subst, ◌∙◌, rules, ◌↔◌, AllPairs, Contains, answers_always, ChannelId}
use Rattle.mum_tree.proofs.Search.{found_by_binary_search, told_by_search}
use Rattle.mum_tree.proofs.scratch.Scratch.marked.Goals as goal

pub returns : goal.returns
returns c =
    let facts = c.binary_search_by_key.ensures in
    let by_number = facts.position (λ (one : ChannelId). one.0) (answers_always _ _ _ (λ f a r g called. search rules)) in
    let count = c.self.inside.count in
    let same = c.deref.ensures.value in
    let ids = take count c.deref.result.now in
    let rise = subst (λ (all : List ChannelId). AllPairs (λ one later. one.0 < later.0) (take count all)) (sym same) c.self.invariant.rise in
    let found = found_by_binary_search (λ (one : ChannelId). one.0) ids rise c.args.id.0 c.binary_search_by_key.result facts.bound by_number in
    subst (λ (view : List ChannelId). (c.is_ok.result ≡ true) ↔ Contains view c.args.id)
    (ap (λ (all : List ChannelId). take count all) same ∙ c.self.view_is)
    (told_by_search ids c.args.id c.binary_search_by_key.result c.is_ok.result c.is_ok.ensures.value found)
