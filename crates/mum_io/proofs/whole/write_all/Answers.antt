use Rattle.mum_io.proofs.Common.{arith, length-drop, ◌∙◌, take_rest}
use Rattle.mum_io.proofs.OutsideLemmas.{Appends-more}
use Rattle.mum_io.proofs.whole.write_all.Goals as goal

pub loop-done-preserved : goal.loop-done-preserved
loop-done-preserved g c =
    let took = rw take_rest at c.in-Took.ensures.bytes in
    record {
      in_range = omega (arith, took.1, length-drop c.loop-done.done c.args.bytes.now);
      written = Appends-more _ _ _ c.loop-done.done c.in-Took.count c.args.bytes.now c.loop-done.invariant.written took.2;
      no_fault = c.in-Took.ensures.counts ∙ c.loop-done.invariant.no_fault;
    }
