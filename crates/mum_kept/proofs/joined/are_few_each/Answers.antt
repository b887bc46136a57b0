use Rattle.mum_kept.proofs.Common.{sym, ◌∙◌, arith, false≢true}
use Rattle.mum_kept.proofs.Degrees.{counted_at, few_all, few_at, few_not_at}
use Rattle.mum_kept.proofs.joined.are_few_each.Goals as goal

pub count_link-requires : goal.count_link-requires
count_link-requires c = c.requires c.loop-link.link-index _ c.loop-link-test.true

pub loop-link-preserved : goal.loop-link-preserved
loop-link-preserved c = record {
  counted = counted_at c.loop-link.counts.entries _ c.args.links.now c.loop-link.link-index _ c.loop-link-test.true (c.in_ok-few.ensures.counted c.if-not-few.false) c.loop-link.invariant.counted;
  few = few_at c.loop-link.counts.entries c.args.links.now c.loop-link.link-index _ c.loop-link-test.true c.loop-link.invariant.counted (c.in_ok-few.ensures.few.0 c.if-not-few.false) c.loop-link.invariant.few;
}

pub returns-then-not-few : goal.returns-then-not-few
returns-then-not-few c =
    few_not_at c.loop-link.counts.entries c.args.links.now c.loop-link.link-index _ c.loop-link-test.true c.loop-link.invariant.counted
    (λ room. false≢true (sym c.if-not-few.true ∙ c.in_ok-few.ensures.few.1 room))

pub returns : goal.returns
returns c = few_all c.args.links.now c.loop-link.link-index (omega arith) c.loop-link.invariant.few
