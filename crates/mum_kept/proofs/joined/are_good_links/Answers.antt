use Rattle.mum_kept.proofs.Common.{IsTrue, ◌↔◌, IfOk-weaker, AreGoodLinks, tree_rows}
use Rattle.mum_kept.proofs.{Degrees.all_join, Whole.links_good, Whole.not_joined, Whole.not_ordered}
use Rattle.mum_kept.proofs.joined.are_good_links.Goals as goal

pub are_few_each-requires : goal.are_few_each-requires
are_few_each-requires c = λ k d within. ((all_join (tree_rows c.args.channels.now) c.args.links.now c.all_join_two.result c.all_join_two.ensures).0 c.if-not-all_join_two.false k d within).2

pub returns-then-not-all_join_two : goal.returns-then-not-all_join_two
returns-then-not-all_join_two c = not_joined (tree_rows c.args.channels.now) c.args.links.now c.all_join_two.result c.all_join_two.ensures c.if-not-all_join_two.true

pub returns-then-not-rise : goal.returns-then-not-rise
returns-then-not-rise c = not_ordered (tree_rows c.args.channels.now) c.args.links.now c.rise.result c.rise.ensures c.if-not-rise.true

pub returns : goal.returns
returns c =
    IfOk-weaker c.are_few_each.result _ (λ good. IsTrue good ↔ AreGoodLinks (tree_rows c.args.channels.now) c.args.links.now)
    (λ few each. links_good (tree_rows c.args.channels.now) c.args.links.now c.all_join_two.result c.rise.result few c.all_join_two.ensures c.if-not-all_join_two.false c.rise.ensures c.if-not-rise.false each)
    c.are_few_each.ensures
