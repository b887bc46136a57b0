use Rattle.mum_tree.proofs.Common.{◌∙◌, eqb, get_or, ap, sym}
use Rattle.mum_tree.proofs.Numbered.{before_more, few_more, marked_more}
use Rattle.mum_tree.proofs.components.mark_component.Goals as goal

pub loop-k-preserved : goal.loop-k-preserved
loop-k-preserved c =
    let rows = c.args.rows.now in
    let numbers = c.args.numbers.now in
    let row = c.index-rows-k.result in
    let k = c.loop-k.k in
    let same = eqb (get_or numbers k 0) (get_or numbers c.args.at 0) in
    let marked = c.loop-k.scratch in
    record {
      few = rw c.mark_if.ensures (few_more marked row.channel.id same k c.loop-k.invariant.few);
      before = rw c.mark_if.ensures (before_more rows k row marked same c.requires.rise c.loop-k-test.true c.index-rows-k.is c.loop-k.invariant.before);
      marked = λ chosen agrees.
          c.mark_if.ensures
          ∙ marked_more chosen rows k row marked same c.loop-k-test.true c.index-rows-k.is (c.loop-k.invariant.marked chosen agrees) (sym (ap chosen c.index-rows-k.is ∙ agrees k row c.loop-k-test.true));
    }
