use Rattle.mum_kept.proofs.Common.{IsTrue, ◌↔◌, IfOk-weaker, IsGood}
use Rattle.mum_kept.proofs.Whole.{none_good, not_good, tree_good}
use Rattle.mum_kept.proofs.good.good_rows.Goals as goal

pub are_good_links-requires : goal.are_good_links-requires
are_good_links-requires c = (c.in_ok-good.ensures.0 c.if-not-good.false).rising

pub returns-then-is_empty : goal.returns-then-is_empty
returns-then-is_empty c =
    none_good c.args.rows.now c.as_slice-channels.result.now c.as_slice-links.result.now c.is_empty.result c.is_empty-then-is_empty.result c.as_slice-channels.ensures c.as_slice-links.ensures c.is_empty.ensures c.if-is_empty.true
    c.is_empty-then-is_empty.ensures

pub returns-then-not-good : goal.returns-then-not-good
returns-then-not-good c =
    not_good c.args.rows.now c.as_slice-channels.result.now c.is_empty.result _ c.as_slice-channels.ensures c.is_empty.ensures c.if-is_empty.false c.in_ok-good.ensures c.if-not-good.true

pub returns : goal.returns
returns c =
    IfOk-weaker c.are_good_links.result _ (λ good. IsTrue good ↔ IsGood c.args.rows.now)
    (λ fine links.
    tree_good c.args.rows.now c.as_slice-channels.result.now c.as_slice-links.result.now c.is_empty.result _ fine c.as_slice-channels.ensures c.as_slice-links.ensures c.is_empty.ensures c.if-is_empty.false c.in_ok-good.ensures
    c.if-not-good.false links)
    c.are_good_links.ensures
