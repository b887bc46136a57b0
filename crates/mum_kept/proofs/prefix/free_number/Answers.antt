use Rattle.mum_kept.proofs.Common.{Bool, List, false, get_or, ap, ◌∙◌, rules, none_marked}
use Rattle.mum_kept.proofs.prefix.free_number.Goals as goal

pub first_unused-requires-clause-none : goal.first_unused-requires-clause-none
first_unused-requires-clause-none c = λ n.
    ap (λ (marks : List Bool). get_or marks n false) (c.deref_mut.ensures.value ∙ c.in_ok-used.ensures.items_if_clones_equal (λ y same. search rules)) ∙ none_marked 17577 n

pub returns : goal.returns
returns c = record { number = c.first_unused.ensures.number; within = c.first_unused.ensures.within }
