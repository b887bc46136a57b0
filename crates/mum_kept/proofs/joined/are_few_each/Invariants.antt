use Rattle.mum_kept.proofs.Common.{take}
use Rattle.mum_kept.proofs.Degrees.{AreCounted, AreFew}
use Rattle.mum_kept.proofs.joined.are_few_each.Given as goal

abbrev pub invariant-loop-link : goal.invariant-loop-link
invariant-loop-link l = record {
  counted : AreCounted l.counts.entries (take l.link-index l.links);
  few : AreFew (take l.link-index l.links);
}
