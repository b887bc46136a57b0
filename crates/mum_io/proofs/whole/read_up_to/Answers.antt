use Rattle.mum_io.proofs.Common.{arith, rules, length-take, ◌∙◌, ◌++◌, take, Consumes-kept, Consumes-trans}
use Rattle.mum_io.proofs.WholeLemmas.{on_err, IsAllOrLonger-at_end, IsAllOrLonger-past_limit}
use Rattle.mum_io.proofs.whole.read_up_to.Goals as goal

pub loop-chunk-preserved : goal.loop-chunk-preserved
loop-chunk-preserved g c =
    let grown = c.in_ok-extend_from_slice-in-Got.ensures in
    record {
      bounded = omega (arith, grown.len, c.len.ensures, c.loop-chunk.auto.chunk, c.in_ok-buffer.ensures, length-take c.in-Got.count c.read.new.buf);
      taken = rw grown.items
          (Consumes-trans _ _ _ c.loop-chunk.bytes.items _ c.loop-chunk.invariant.taken c.in-Got.ensures.bytes.2);
      no_fault = c.in-Got.ensures.counts ∙ c.loop-chunk.invariant.no_fault;
    }

pub returns-in_err-extend_from_slice-in-Got-clause-front : goal.returns-in_err-extend_from_slice-in-Got-clause-front
returns-in_err-extend_from_slice-in-Got-clause-front g c =
    on_err c.from_residual-in_err-extend_from_slice-in-Got.result (
      c.loop-chunk.bytes.items ++ take c.in-Got.count c.read.new.buf,
      Consumes-trans _ _ _ c.loop-chunk.bytes.items _ c.loop-chunk.invariant.taken c.in-Got.ensures.bytes.2,
    )

pub returns-in-End-clause-bytes : goal.returns-in-End-clause-bytes
returns-in-End-clause-bytes g c =
    IsAllOrLonger-at_end c.args.limit _ _ c.loop-chunk.bytes.items c.loop-chunk.invariant.taken c.in-End.ensures.bytes.0

pub returns-in-End-clause-none_lost : goal.returns-in-End-clause-none_lost
returns-in-End-clause-none_lost g c = Consumes-kept _ _ _ _ c.loop-chunk.invariant.taken c.in-End.ensures.bytes.1

pub returns-clause-bytes : goal.returns-clause-bytes
returns-clause-bytes g c =
    IsAllOrLonger-past_limit c.args.limit _ _ c.loop-chunk.bytes.items c.loop-chunk.invariant.taken (search rules)
