use Rattle.mum_tree.proofs.Common.{◌∙◌, ◌||◌, not, Bool, List, ap, sym, subst, rules, list_any, filter_same, Pair, Ordered, is_pair, AreBothWays}
use Rattle.mum_tree.proofs.Joined.{both_parted, ordered_parted, parted_none}
use Rattle.mum_tree.proofs.links.take_link.Goals as goal

pub returns-then-not-has_link-clause-made : goal.returns-then-not-has_link-clause-made
returns-then-not-has_link-clause-made c =
    let unlinked = ap (λ (ps : List Pair). list_any (is_pair c.args.a c.args.b) ps) (sym c.deref.ensures.value) ∙ sym c.has_link.ensures ∙ c.if-not-has_link.true in
    sym (parted_none c.args.links.now.items c.args.a c.args.b c.requires.both unlinked)

pub returns-clause-made : goal.returns-clause-made
returns-clause-made c =
    let keeps : Pair → Bool = λ pair. not (is_pair c.args.a c.args.b pair || is_pair c.args.b c.args.a pair) in
    filter_same _ keeps _ (λ x b f k. search rules) c.args.links.now.items c.retain.new.self.items c.retain.ensures.filtered

pub returns-clause-ordered : goal.returns-clause-ordered
returns-clause-ordered c =
    let keeps : Pair → Bool = λ pair. not (is_pair c.args.a c.args.b pair || is_pair c.args.b c.args.a pair) in
    let kept = filter_same _ keeps _ (λ x b f k. search rules) c.args.links.now.items c.retain.new.self.items c.retain.ensures.filtered in
    subst Ordered (sym kept) (ordered_parted c.args.links.now.items c.args.a c.args.b c.requires.ordered)

pub returns-clause-both : goal.returns-clause-both
returns-clause-both c =
    let keeps : Pair → Bool = λ pair. not (is_pair c.args.a c.args.b pair || is_pair c.args.b c.args.a pair) in
    let kept = filter_same _ keeps _ (λ x b f k. search rules) c.args.links.now.items c.retain.new.self.items c.retain.ensures.filtered in
    subst AreBothWays (sym kept) (both_parted c.args.links.now.items c.args.a c.args.b c.requires.both)
